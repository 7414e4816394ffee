-- Closing stores: they end a checkpoint, and leave the bitmap and the log alone. Each makes 0 of word 1 or of a word behind the log.
use Prim.Native.Nat.{ℕ, zero, suc, ◌+◌, ◌-◌, ◌*◌, ◌≤◌}
use native.Mathlib.Omega.{arith}
use mathlib.Core.Path.{◌≡◌, refl, sym, ap, ◌∙◌}
use mathlib.Core.Logic.{◌⊎◌, inl, inr, ⊎_elim}
use mathlib.Core.Bool.{true}
use mathlib.Core.Option.{none}
use mathlib.Core.List.{List, [], ◌∷◌}
use lib.ListN.{length, set, take, drop, length-set}
use lib.Seq.{take-set-le}
use Rattle.bitmap.specs.Sizes.{max_blocks, bitmap_words}
use Rattle.bitmap.specs.Bits.{no_bits_from}
use Rattle.model.specs.Rules.Sizes.{length_at, log_at, log_words, log_end, tail_words}
use Rattle.model.specs.Rules.Stores.{Store, writes, closing_stores}
use Rattle.model.specs.Rules.Disk.{length_in, disk_of, entries_in, entries_valid, word_one_valid, durable}
use Rattle.model.specs.Rules.Calls.Open.{open_error}
use Rattle.model.proofs.Laws.Disk.Places.{set-append-add}
use Rattle.model.proofs.Laws.Disk.Entries.{entries-take}
use Rattle.model.proofs.Laws.Disk.Parts.{none_told, zero-valid, disk_of-durable, disk_of-opens}

abbrev pub ClosingStore : Store → Type 0
ClosingStore store = ((store.place ≡ length_at) ⊎ (log_end ≤ store.place)) × (store.value ≡ 0)

abbrev pub Closing : List Store → Type 0
Closing [] = Unit {0}
Closing (store ∷ stores) = ClosingStore store × Closing stores

pub closing-take : (k : ℕ) (stores : List Store) → Closing stores → Closing (take k stores)
closing-take zero stores c = tt
closing-take (suc k) [] c = tt
closing-take (suc k) (store ∷ stores) c = (c.0, closing-take k stores c.1)

pub closing-drop : (k : ℕ) (stores : List Store) → Closing stores → Closing (drop k stores)
closing-drop zero stores c = c
closing-drop (suc k) [] c = tt
closing-drop (suc k) (store ∷ stores) c = closing-drop k stores c.1

-- "word 1 becomes 0"
pub closes : Closing closing_stores
closes = ((inl refl, refl), tt)

-- a disk after closing stores: its word 1 is the same or 0, bitmap and log stand
pub record Closed (blocks word : ℕ) (words tail disk : List ℕ) : Type 0 where
  pub word_one_is : ℕ
  pub rest : List ℕ
  pub is : disk ≡ disk_of blocks word_one_is words rest
  pub told : (word_one_is ≡ word) ⊎ (word_one_is ≡ 0)
  pub log_kept : take log_words rest ≡ take log_words tail
  pub size : length rest ≡ length tail

module _ (blocks : ℕ) (words : List ℕ) (fits : length words ≡ bitmap_words) where
  -- a store behind the log
  behind : (word place value : ℕ) (tail : List ℕ) → log_end ≤ place
      → set (disk_of blocks word words tail) place value ≡ disk_of blocks word words (set tail (place - log_at) value)
  behind word place value tail h =
      let at : place ≡ length (blocks ∷ word ∷ words) + (place - log_at) = omega (arith, fits) in
      ap (λ (n : ℕ). set (disk_of blocks word words tail) n value) at
      ∙ set-append-add (blocks ∷ word ∷ words) tail (place - log_at) value

  pub closed : (word : ℕ) (tail : List ℕ) (stores : List Store) → Closing stores → Closed blocks word words tail (writes stores (disk_of blocks word words tail))
  unfolding writes
  closed word tail [] c = record { word_one_is = word; rest = tail; is = refl; told = inl refl; log_kept = refl; size = refl }
  closed word tail (store ∷ stores) c =
      ⊎_elim
      (λ (e : store.place ≡ length_at). at-word-one e (closed store.value tail stores c.1))
      (λ (h : log_end ≤ store.place). past-log h (closed word (set tail (store.place - log_at) store.value) stores c.1))
      c.0.0
    where
      After : Type 0
      After = Closed blocks word words tail (writes stores (set (disk_of blocks word words tail) store.place store.value))

      new-tail : List ℕ
      new-tail = set tail (store.place - log_at) store.value

      at-word-one : store.place ≡ length_at
          → Closed blocks store.value words tail (writes stores (disk_of blocks store.value words tail))
          → After
      at-word-one e d =
          record {
            word_one_is = d.word_one_is;
            rest = d.rest;
            is = ap (λ (n : ℕ). writes stores (set (disk_of blocks word words tail) n store.value)) e ∙ d.is;
            told =
                inr
                (⊎_elim
                (λ (same : d.word_one_is ≡ store.value). same ∙ c.0.1)
                (λ (ended : d.word_one_is ≡ 0). ended)
                d.told);
            log_kept = d.log_kept;
            size = d.size;
          }

      past-log : log_end ≤ store.place
          → Closed blocks word words new-tail (writes stores (disk_of blocks word words new-tail))
          → After
      past-log h d =
          record {
            word_one_is = d.word_one_is;
            rest = d.rest;
            is = ap (writes stores) (behind word store.place store.value tail h) ∙ d.is;
            told = d.told;
            log_kept = d.log_kept ∙ take-set-le log_words tail (store.place - log_at) store.value (omega arith);
            size = d.size ∙ length-set tail (store.place - log_at) store.value;
          }

  module _ (word : ℕ) (tail : List ℕ) (few : 2 * length_in word ≤ log_words) (disk : List ℕ) (d : Closed blocks word words tail disk) where
    -- the log tells the same entries, or none
    entries-now : (entries_in (length_in d.word_one_is) d.rest ≡ entries_in (length_in word) tail) ⊎ (entries_in (length_in d.word_one_is) d.rest ≡ [])
    unfolding entries_in
    entries-now =
        ⊎_elim
        (λ (same : d.word_one_is ≡ word).
        inl
        (ap (λ (n : ℕ). entries_in (length_in n) d.rest) same
        ∙ sym (entries-take (length_in word) log_words d.rest few)
        ∙ ap (entries_in (length_in word)) d.log_kept
        ∙ entries-take (length_in word) log_words tail few))
        (λ (ended : d.word_one_is ≡ 0). inr (ap (λ (n : ℕ). entries_in n d.rest) (ap length_in ended ∙ none_told)))
        d.told

    -- where every logged word stands in the bitmap, that is what the disk stands for
    pub closed-durable : writes (entries_in (length_in word) tail) words ≡ words → durable disk ≡ words
    unfolding writes
    closed-durable written =
        ap durable d.is
        ∙ disk_of-durable blocks d.word_one_is words d.rest fits
        ∙ ⊎_elim
        (λ (same : entries_in (length_in d.word_one_is) d.rest ≡ entries_in (length_in word) tail). ap (λ (es : List Store). writes es words) same ∙ written)
        (λ (ended : entries_in (length_in d.word_one_is) d.rest ≡ []). ap (λ (es : List Store). writes es words) ended)
        entries-now

    -- a disk that opens opens still
    pub closed-opens : length tail ≡ tail_words
        → 1 ≤ blocks
        → blocks ≤ max_blocks
        → no_bits_from blocks words ≡ true
        → word_one_valid blocks word ≡ true
        → entries_valid blocks 0 (entries_in (length_in word) tail) ≡ true
        → open_error disk ≡ none
    unfolding entries_valid
    closed-opens tail-size some_blocks few_blocks no_bits word_one_is valid =
        ap open_error d.is
        ∙ disk_of-opens blocks d.word_one_is words d.rest fits (d.size ∙ tail-size) some_blocks few_blocks no_bits
        (⊎_elim
        (λ (same : d.word_one_is ≡ word). ap (word_one_valid blocks) same ∙ word_one_is)
        (λ (ended : d.word_one_is ≡ 0). ap (word_one_valid blocks) ended ∙ zero-valid blocks)
        d.told)
        (⊎_elim
        (λ (same : entries_in (length_in d.word_one_is) d.rest ≡ entries_in (length_in word) tail). ap (entries_valid blocks 0) same ∙ valid)
        (λ (ended : entries_in (length_in d.word_one_is) d.rest ≡ []). ap (entries_valid blocks 0) ended)
        entries-now)
