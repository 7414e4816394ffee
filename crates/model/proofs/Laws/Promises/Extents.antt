-- What allocate extent promises (specs/Promises/Extents.antt).
use Prim.Native.Nat.{ℕ, ◌+◌, ◌-◌, ◌≤◌, ◌<◌}
use native.Mathlib.Nat.{add-zero}
use native.Mathlib.Omega.{arith}
use mathlib.Core.Path.{◌≡◌, refl, sym, ap, ◌∙◌}
use mathlib.Core.Logic.{⊎_elim}
use mathlib.Core.Bool.{true}
use mathlib.Core.Option.{Option, none}
use mathlib.Core.List.{List, ◌++◌}
use lib.ListN.{length, get_or, drop, length-append, length-drop, get_or-append}
use lib.Seq.{get_or-append-add, get_or-drop}
use borrow.Author.Tests.{lt-leb, eqb-true, ne_eqb}
use Rattle.bitmap.specs.Blocks.{member}
use Rattle.bitmap.specs.Extents.{is_start, nearest}
use Rattle.bitmap.proofs.Laws.Extents.{start-within, start-holds, start_of, starts-are, starts-all, nearest-member, nearest-least, nearest-lower, distance-same, distance-zero, member-some, member-adjoining, length-adjoining, distinct-adjoining, get_or-adjoining}
use Rattle.bitmap.proofs.Laws.Blocks.{Distinct}
use Rattle.model.specs.Types.{Memory, Error, NoExtent, Ok}
use Rattle.model_types.specs.Answers.{answer}
use Rattle.model.specs.Rules.First.{unless_refused}
use Rattle.model.specs.Rules.Causes.{block_out_of_range, extent_starts, no_extent}
use Rattle.model.specs.Rules.CauseLists.{open_causes, of_slot}
use Rattle.model.specs.Rules.Calls.Precommit.{precommit_error}
use Rattle.model.specs.Rules.Calls.AllocateExtent.{allocate_extent_error, nearest_extent, allocate_extent_answer, allocate_extent_list}
use Rattle.model.specs.Promises.Extents.{IsExtent, Nearest, GrantsNearest, ListsAdjoining, ListsExtent, FindsExtent, NoneToFind, GrantsNamed}
use Rattle.model.proofs.Laws.Calls.First.{none_first, none-append, some_after}
use Rattle.model.proofs.Laws.Calls.Answered.{told-answer, told-refusal}
use Rattle.model.proofs.Laws.Calls.Accepted.{count-some, spared-others, AllocateExtentAccepted, allocate-extent-accepted}
use Rattle.model.proofs.Laws.Promises.FourCounts.{eligible-open, eligible-room}
use Rattle.model.proofs.Laws.Memory.Fit.{available_in}
use Rattle.model.proofs.Laws.Memory.Taking.{AllAvailable, available-of}

-- the start nearest to a named block
abbrev pub nearest_start : Memory → ℕ → ℕ → ℕ
nearest_start memory count near = nearest near memory.blocks (extent_starts memory count)

-- behind the blocks listed the places are as they were
pub later-places : (blocks list : List ℕ) (count : ℕ) → length blocks ≡ count → (i : ℕ) → count ≤ i → get_or (blocks ++ drop count list) i 0 ≡ get_or list i 0
later-places blocks list count size i h =
    let e : length blocks + (i - count) ≡ i = omega arith in
    let f : count + (i - count) ≡ i = omega arith in
    sym (ap (λ (j : ℕ). get_or (blocks ++ drop count list) j 0) e)
    ∙ get_or-append-add blocks (drop count list) (i - count) 0
    ∙ get_or-drop count list (i - count) 0
    ∙ ap (λ (j : ℕ). get_or list j 0) f

module _ (memory : Memory) (count : ℕ) where
  -- ---- the starts

  -- at each an extent starts
  starts-extent : (b : ℕ) → member b (extent_starts memory count) ≡ true → IsExtent memory count b
  unfolding extent_starts
  starts-extent b m =
      let is : is_start (available_in memory) memory.blocks count b ≡ true = starts-are (available_in memory) memory.blocks count b m in
      record {
        within = start-within (available_in memory) memory.blocks count b is;
        available = λ i. start-holds (available_in memory) memory.blocks count b i is;
      }

  -- and every extent of some blocks has its start among them
  extent-starts : (b : ℕ) → 1 ≤ count → IsExtent memory count b → member b (extent_starts memory count) ≡ true
  unfolding extent_starts
  extent-starts b some extent =
      starts-all (available_in memory) memory.blocks count b some
      (start_of (available_in memory) memory.blocks count b extent.within extent.available)

  -- ---- the nearest one

  module _ (near : ℕ) where
    abbrev start : ℕ
    start = nearest_start memory count near

    pub nearest-extent : 1 ≤ length (extent_starts memory count) → IsExtent memory count start
    nearest-extent found = starts-extent start (nearest-member near memory.blocks (extent_starts memory count) found)

    -- of all extents it starts nearest to the named block
    start-nearest : 1 ≤ count → 1 ≤ length (extent_starts memory count) → Nearest memory count near start
    start-nearest some found =
        record {
          extent = nearest-extent found;
          none_nearer = λ c extent. nearest-least near memory.blocks (extent_starts memory count) c (extent-starts c some extent);
          none_lower = λ c extent. nearest-lower near memory.blocks (extent_starts memory count) c (extent-starts c some extent);
        }

    -- its blocks: one by one, how many, and that each is available
    pub nearest-at : (i : ℕ) → i < count → get_or (nearest_extent memory count near) i 0 ≡ start + i
    unfolding nearest_extent
    nearest-at i h = get_or-adjoining start count i 0 h

    pub nearest-length : length (nearest_extent memory count near) ≡ count
    unfolding nearest_extent
    nearest-length = length-adjoining _ count

    pub nearest-distinct : Distinct (nearest_extent memory count near)
    unfolding nearest_extent
    nearest-distinct = distinct-adjoining _ count

    pub nearest-extent-available : 1 ≤ length (extent_starts memory count) → AllAvailable memory (nearest_extent memory count near)
    unfolding nearest_extent
    nearest-extent-available found b m =
        let extent = nearest-extent found in
        let inside = member-adjoining b start count m in
        let there : start + (b - start) ≡ b = omega (arith, inside.0) in
        available-of memory b (omega (arith, inside.1, extent.within))
        (sym (ap (available_in memory) there) ∙ extent.available (b - start) (omega (arith, inside.0, inside.1)))

    -- the list after it
    nearest-listed : (list : List ℕ) → count ≤ length list → ListsAdjoining count start list (nearest_extent memory count near ++ drop count list)
    nearest-listed list room =
        let blocks : List ℕ = nearest_extent memory count near in
        record {
          same_length = length-append blocks (drop count list) ∙ omega (arith, nearest-length, length-drop count list);
          rising = λ i h. get_or-append blocks (drop count list) 0 i (omega (arith, nearest-length)) ∙ nearest-at i h;
          later = later-places blocks list count nearest-length;
        }

-- ---- a grant

module _ (memory : Memory) (s count near : ℕ) (list : List ℕ) where
  -- what an answered block tells
  record Told (b : ℕ) : Type 0 where
    pub not-refused : allocate_extent_error memory s count near list ≡ none
    pub accepted : AllocateExtentAccepted memory s count near list
    pub first : nearest_start memory count near ≡ b

  told : (b : ℕ) → allocate_extent_answer memory s count near list ≡ Ok b → Told b
  unfolding allocate_extent_answer
  told b answered =
      let e = told-answer (allocate_extent_error memory s count near list) _ b answered in
      let a = allocate-extent-accepted memory s count near list e.0 in
      record {
        not-refused = e.0;
        accepted = a;
        first = sym (nearest-at memory count near 0 a.some ∙ add-zero (nearest_start memory count near)) ∙ e.1;
      }

pub grants-nearest : GrantsNearest
grants-nearest memory s count near list b answered =
    let t = told memory s count near list b answered in
    rw (← t.first) (start-nearest memory count near t.accepted.some t.accepted.found)

pub lists-extent : ListsExtent
unfolding allocate_extent_list unless_refused
lists-extent memory s count near list b answered =
    let t = told memory s count near list b answered in
    rw (t.not-refused, ← t.first) (nearest-listed memory count near list t.accepted.room)

-- the named block is a single one's extent, at distance 0
pub grants-named : GrantsNamed
grants-named memory s near list b answered available =
    let below = (told memory s 1 near list b answered).accepted.near-below in
    let named : IsExtent memory 1 near =
    record {
      within = omega (arith, below);
      available = λ i h. let same : near + i ≡ near = omega arith in ap (available_in memory) same ∙ available;
    } in
    let least = (grants-nearest memory s 1 near list b answered).none_nearer near named in
    sym (distance-zero near b (omega (arith, least, distance-same near)))

-- ---- cause 22

-- where it is the first, 15 doesn't hold: `cN` is what is left of the list from cause N on
pub none-to-find : NoneToFind
unfolding allocate_extent_answer allocate_extent_error no_extent
none-to-find memory s count near list refused c extent =
    let c15 = some_after (of_slot open_causes memory s) _ NoExtent refl (told-refusal (allocate_extent_error memory s count near list) _ NoExtent refused) in
    let c16 = c15.1 in
    let c18 = c16.1 in
    let c22 = c18.1 in
    let starts : List ℕ = extent_starts memory count in
    let found = member-some c starts (extent-starts memory count c (count-some count c15.0) extent) in
    ⊎_elim (λ h. let None-found = eqb-true (length starts) 0 h in omega (arith, found, None-found)) (λ c24. absurd c24.1) c22

pub finds-extent : FindsExtent
unfolding allocate_extent_answer allocate_extent_error precommit_error block_out_of_range no_extent answer
finds-extent memory is_valid s count near list eligible below c extent enough =
    let starts : List ℕ = extent_starts memory count in
    let found = member-some c starts (extent-starts memory count c eligible.some extent) in
    let accepted : allocate_extent_error memory s count near list ≡ none =
    none-append _ _ (eligible-open memory s count list is_valid eligible)
    ∙ eligible-room memory s count list is_valid eligible _
    ∙ none_first _ (
      lt-leb memory.blocks near below,
      (ne_eqb (length starts) 0 (λ z. omega (arith, found, z)), (spared-others memory s count (omega (arith, enough)), tt)),
    ) in
    let b : ℕ = get_or (nearest_extent memory count near) 0 0 in
    (b, ap (λ (e : Option Error). answer e b) accepted)
