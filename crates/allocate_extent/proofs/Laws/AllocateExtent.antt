-- Allocate extent: its error by the causes that it tests behind an open slot's, what the search and taking the blocks need, and the
-- first block.
use Prim.Native.Nat.{ℕ, suc, ◌+◌, ◌-◌, ◌≤◌}
use native.Mathlib.Nat.{add-zero}
use native.Mathlib.Omega.{arith}
use mathlib.Core.Path.{◌≡◌, refl, sym, ap, ap₂, ◌∙◌}
use mathlib.Core.Bool.{Bool, true, false, not, cond}
use mathlib.Core.Option.{none, some}
use mathlib.Core.List.{List, [], ◌∷◌, ◌++◌}
use lib.ListN.{length, get_or}
use lib.Dec.{eqb, ltb}
use borrow.Author.Tests.{eqb-true, eqb-false, lt-ltb, le-ltb}
use Rattle.std.specs.Prelude.{Some, None, Ok, Err, ⊤}
use Rattle.std.specs.Option.{unwrap_or}
use Rattle.bitmap.specs.Blocks.{is_available}
use Rattle.bitmap.specs.Extents.{nearest, starts}
use Rattle.bitmap.specs.Round.{wrapped, after_last}
use Rattle.bitmap.proofs.Laws.Extents.{nearest-none, member-some}
use Rattle.bitmap.proofs.Laws.Round.{after-last-at}
use Rattle.model_types.specs.declared.error.Error.{Error}
use Rattle.model_types.specs.declared.error.Error.TheVariants.{NoExtent}
use Rattle.model_types.specs.declared.memory.Slot.{Slot}
use Rattle.model_types.specs.declared.memory.Memory.{Memory}
use Rattle.model_types.specs.Answers.{answer}
use Rattle.model_types.specs.Memory.{slot_at}
use Rattle.model.specs.Rules.First.{first, ◌⇒◌}
use Rattle.model.specs.Rules.Reserves.{others_reserved}
use Rattle.model.specs.Rules.Causes.{extent_starts, no_extent}
use Rattle.model.specs.Rules.CauseLists.{open_causes, of_slot, request_causes, spare_causes}
use Rattle.model.specs.Rules.Calls.Precommit.{precommit_error}
use Rattle.model.specs.Rules.Calls.AllocateExtent.{allocate_extent_error, nearest_extent}
use Rattle.model.proofs.Laws.Calls.First.{first-none, cause-holds, cause-passed}
use Rattle.model.proofs.Laws.Calls.Turns.{some-before, none-before}
use Rattle.model.proofs.Laws.Calls.Answered.{told-answer, told-refusal}
use Rattle.model.proofs.Laws.Memory.Valid.{ValidParts, valid-parts, slot-below}
use Rattle.model.proofs.Laws.Calls.Accepted.{count-some, count-few, block-below, precommit-accepted, AllocateExtentAccepted}
use Rattle.model.proofs.Laws.Promises.Extents.{nearest_start, nearest-extent, nearest-at, nearest-length}
use Rattle.model_types.specs.Shape.{HasShape}
use Rattle.verdicts.specs.declared.ready.Ready.{Ready}
use Rattle.verdicts.proofs.Laws.Ready.{Passed}
use Rattle.causes.proofs.Laws.Available.{spared-same}
use Rattle.available.specs.Take.{Takes}
use Rattle.extents.specs.Take.{CanTake, LiesIn, TakesExtent}
use Rattle.extents.specs.Nearest.{CanSearch, if_below}

-- what a block below m tells, and none
some-below : (m found : ℕ) {start : ℕ} → Some start ≡ if_below m found → (start ≡ found) × (ltb found m ≡ true)
some-below m found {start = start} e = go (ltb found m) refl e
  where
    go : (t : Bool) → ltb found m ≡ t → Some start ≡ cond t (Some found) None → (start ≡ found) × (ltb found m ≡ true)
    go true h e = (cc, h)
    go false h e = (cc, cc)

none-below : (m found : ℕ) → None ≡ if_below m found → ltb found m ≡ false
none-below m found e = go (ltb found m) refl e
  where
    go : (t : Bool) → ltb found m ≡ t → None ≡ cond t (Some found) None → ltb found m ≡ false
    go true h e = cc
    go false h e = h

not-not : (t : Bool) → not (not t) ≡ t
not-not true = refl
not-not false = refl

module _ (memory : Memory) (s count near : ℕ) (list : List ℕ) where
  -- ---- the search

  -- it is a block just if there is an extent
  found-below : 1 ≤ count → ltb (nearest_start memory count near) memory.blocks ≡ not (no_extent memory count)
  unfolding no_extent
  found-below one = go (eqb (length (extent_starts memory count)) 0) refl
    where
      go : (t : Bool) → eqb (length (extent_starts memory count)) 0 ≡ t → ltb (nearest_start memory count near) memory.blocks ≡ not t
      go true e =
          let none-is =
          nearest-none near memory.blocks (extent_starts memory count)
          (λ c m. absurd (omega (arith, eqb-true (length (extent_starts memory count)) 0 e, member-some c (extent_starts memory count) m))) in
          le-ltb (nearest_start memory count near) memory.blocks (omega (arith, none-is))
      go false e =
          let some-starts = eqb-false (length (extent_starts memory count)) 0 e in
          let found : 1 ≤ length (extent_starts memory count) = omega (arith, some-starts) in
          let extent = nearest-extent memory count near found in
          lt-ltb (nearest_start memory count near) memory.blocks (omega (arith, extent.within, one))

  -- ---- the causes

  -- an open slot's come first
  pub by-open : {error : Error} → precommit_error memory s ≡ some error → allocate_extent_error memory s count near list ≡ some error
  unfolding precommit_error allocate_extent_error
  by-open {error = error} e = some-before (of_slot open_causes memory s) _ error e

  module _ {ready : Ready} (told : Passed memory s (precommit_error memory s) ready) where
    -- then the request's
    pub by-request : {error : Error} → Err error ≡ answer {A = ⊤} (first (request_causes memory.blocks count near list)) tt
        → allocate_extent_error memory s count near list ≡ some error
    unfolding precommit_error allocate_extent_error
    by-request {error = error} e =
        none-before (of_slot open_causes memory s) _ told.none-found
        ∙ some-before (request_causes memory.blocks count near list) _ error (told-refusal _ _ _ (sym e))

    module _ (asked : Ok tt ≡ answer {A = ⊤} (first (request_causes memory.blocks count near list)) tt) where
      asked-none : first (request_causes memory.blocks count near list) ≡ none
      asked-none = (told-answer _ _ _ (sym asked)).0

      -- where the request is in order an extent can be looked for
      pub can-search : CanSearch memory.blocks count near
      can-search =
          let open-slot = precommit-accepted memory s told.none-found in
          let c15 = first-none _ asked-none in
          let c16 = c15.1 in
          let c18 = c16.1 in
          record {
            volume = (valid-parts memory open-slot.ready.is_valid).few_blocks;
            some = count-some count c15.0;
            few = count-few count c15.0;
            inside = block-below memory.blocks near c18.0;
          }

      below-is : {t : Bool} → ltb (nearest_start memory count near) memory.blocks ≡ t → no_extent memory count ≡ not t
      below-is e = sym (not-not (no_extent memory count)) ∙ ap not (sym (found-below can-search.some) ∙ e)

      -- then 22
      pub by-search : None ≡ if_below memory.blocks (nearest near memory.blocks (starts (is_available memory.sam.words memory.com.words) memory.blocks count))
          → allocate_extent_error memory s count near list ≡ some NoExtent
      unfolding precommit_error allocate_extent_error extent_starts
      by-search e =
          none-before (of_slot open_causes memory s) _ told.none-found
          ∙ none-before (request_causes memory.blocks count near list) _ asked-none
          ∙ cause-holds _ NoExtent _ (below-is (none-below memory.blocks _ e))

      module _ {start : ℕ}
          (searched : Some start ≡ if_below memory.blocks (nearest near memory.blocks (starts (is_available memory.sam.words memory.com.words) memory.blocks count))) where
        -- what is found is the start of the definition
        pub start-is : start ≡ nearest_start memory count near
        unfolding extent_starts
        start-is = (some-below memory.blocks _ searched).0

        -- and 24 behind it
        module _ {known kept : ℕ} (counts : known ≡ unwrap_or ready.counted 0) (adds : kept ≡ others_reserved memory.reserves ready.at) where
          by-spare : allocate_extent_error memory s count near list ≡ first (spare_causes known count kept)
          unfolding precommit_error allocate_extent_error extent_starts
          by-spare =
              none-before (of_slot open_causes memory s) _ told.none-found
              ∙ none-before (request_causes memory.blocks count near list) _ asked-none
              ∙ cause-passed _ NoExtent _ (below-is (some-below memory.blocks _ searched).1)
              ∙ sym (ap₂ (λ (n m : ℕ). first (spare_causes n count m)) counts (adds ∙ ap (others_reserved memory.reserves) told.at-is)
              ∙ ap first (spared-same memory s count told.counted-is))

          pub refused : {error : Error} → Err error ≡ answer {A = ⊤} (first (spare_causes known count kept)) tt
              → allocate_extent_error memory s count near list ≡ some error
          refused e = by-spare ∙ told-refusal _ _ _ (sym e)

          pub none-held : Ok tt ≡ answer {A = ⊤} (first (spare_causes known count kept)) tt
              → allocate_extent_error memory s count near list ≡ none
          none-held e = by-spare ∙ (told-answer _ _ _ (sym e)).0

  -- ---- the blocks

  module _ (a : AllocateExtentAccepted memory s count near list) where
    -- the first one is the start
    pub start_first : nearest_start memory count near ≡ get_or (nearest_extent memory count near) 0 0
    start_first = sym (nearest-at memory count near 0 a.some ∙ add-zero (nearest_start memory count near))

    module _ {start : ℕ} (is : start ≡ nearest_start memory count near) (parts : ValidParts memory) where
      pub within : start + count ≤ memory.blocks
      within = rw is (nearest-extent memory count near a.found).within

      -- bitmaps and list have room for them
      pub can-take : CanTake start count list
      can-take = record { within = omega (arith, within, parts.few_blocks); room = a.room }

      -- the cursor moves behind them
      pub moved-behind : wrapped memory.blocks (start + count) ≡ after_last memory.blocks memory.cursor (nearest_extent memory count near)
      moved-behind =
          let last : suc (get_or (nearest_extent memory count near) (count - 1) 0) ≡ start + count =
          omega (arith, nearest-at memory count near (count - 1) (omega (arith, a.some)), is, a.some) in
          sym
          (after-last-at memory.blocks memory.cursor (nearest_extent memory count near) (count - 1) (omega (arith, nearest-length memory count near, a.some))
          ∙ ap (wrapped memory.blocks) last)

      lies : (own : Slot) → own ≡ slot_at memory s → HasShape memory → LiesIn memory.blocks start count memory.com.words own.tam.words
      lies own read shape =
          rw read
          (record {
            volume = parts.few_blocks;
            is_com = shape.com;
            is_tam = shape.tam s;
            end_of_com = parts.com_below;
            end_of_tam = slot-below memory s parts;
            within = within;
          })

      -- what was taken is the definition's extent
      pub took-nearest : (own : Slot) → own ≡ slot_at memory s → HasShape memory
          → («com» tam after : List ℕ)
          → TakesExtent start count memory.com.words own.tam.words list «com» tam after
          → Takes memory.blocks count (nearest_extent memory count near) memory.com.words own.tam.words list «com» tam after
      unfolding nearest_extent
      took-nearest own read shape «com» tam after t = rw is at (t memory.blocks (lies own read shape))
