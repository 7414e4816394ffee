-- What the acceptance of a call tells, by name: for each call the causes of its list that don't hold. Below `cN` is what is
-- left of the list from cause N on. What lists begin with alike is told once, by the laws `..-then`.
use Prim.Native.Nat.{ℕ, ◌≤◌, ◌<◌}
use native.Mathlib.Omega.{arith}
use mathlib.Core.Path.{◌≡◌, refl, ap, ◌∙◌}
use mathlib.Core.Bool.{Bool, true, false, not, ◌&&◌, false≢true}
use mathlib.Core.Option.{none}
use mathlib.Core.List.{List, [], ◌∷◌, ◌++◌}
use lib.ListN.{length}
use lib.Dec.{leb, eqb}
use borrow.Author.Tests.{leb-true, leb-false, ltb-true, ltb-false, lt-ltb, le-ltb, eqb-true, eqb-false, eq-eqb, not-false}
use Rattle.bitmap.specs.Sizes.{slot_count, max_count, blocks_in_range, count_in_range, slot_in_range}
use Rattle.model.specs.Types.{Error, SlotState, Pending, Nothing, Commit, Recovery, Memory}
use Rattle.model.specs.Rules.Sizes.{disk_words}
use Rattle.model_types.specs.Memory.{slot_at, is_active, is_precommitted, sam_bit, com_bit}
use Rattle.model.specs.Rules.Valid.{valid}
use Rattle.model.specs.Rules.Disk.{disk_matches}
use Rattle.model.specs.Rules.First.{Cause, first, first_or, ◌⇒◌}
use Rattle.model.specs.Rules.Available.{available}
use Rattle.model.specs.Rules.Causes.{of_available, memory_invalid, disk_length_wrong, disk_mismatched, blocks_out_of_range, nothing_pending, work_pending, slot_out_of_range, slot_active, slot_inactive, slot_precommitted, slot_not_precommitted, count_out_of_range, count_too_large, list_short, too_few_available, block_out_of_range, block_free, block_freeing, extent_starts, no_extent, over_reserved, reserved_for_others}
use Rattle.model.specs.Rules.CauseLists.{ready_causes, active_causes, open_causes, of_slot}
use Rattle.model_types.specs.Pending.{is_nothing}
use Rattle.model.specs.Rules.Calls.Format.{format_error}
use Rattle.model.specs.Rules.Calls.Start.{start_error}
use Rattle.model.specs.Rules.Calls.Allocate.{allocate_error}
use Rattle.model.specs.Rules.Calls.AllocateExtent.{allocate_extent_error}
use Rattle.model.specs.Rules.Calls.Deallocate.{deallocate_error}
use Rattle.model.specs.Rules.Calls.Precommit.{precommit_error}
use Rattle.model.specs.Rules.Calls.Commit.{commit_error}
use Rattle.model.specs.Rules.Calls.Drop.{drop_error}
use Rattle.model.specs.Rules.Calls.Revoke.{revoke_error}
use Rattle.model.specs.Rules.Calls.Store.{store_error}
use Rattle.model.specs.Rules.Calls.CommitCost.{commit_cost_error}
use Rattle.model.specs.Rules.Calls.Reserve.{reserve_error}
use Rattle.model.specs.Rules.Reserves.{total_reserved, others_reserved, reserving}
use Rattle.model.proofs.Laws.Memory.Reserves.{Spares}
use Rattle.model.proofs.Laws.Calls.First.{NoneHold, first-none, none_first, none-append}
use Rattle.model.proofs.Laws.Disk.Writes.{and_first, and_second}

-- ---- single causes

-- 8
pub is-nothing : (pending : Pending) → is_nothing pending ≡ true → pending ≡ Nothing
unfolding is_nothing
is-nothing Nothing e = refl
is-nothing (Commit s done due) e = cc
is-nothing (Recovery done due) e = cc

none_pending : (pending : Pending) → work_pending pending ≡ false → pending ≡ Nothing
unfolding work_pending nothing_pending
none_pending pending e = is-nothing pending (not-false (is_nothing pending) e)

-- 10
slot-below : (s : ℕ) → slot_out_of_range s ≡ false → s < slot_count
unfolding slot_out_of_range slot_in_range
slot-below s e = ltb-true s slot_count (not-false (slot_in_range s) e)

-- 12
slot-active : (state : SlotState) → slot_inactive state ≡ false → is_active state ≡ true
unfolding slot_inactive slot_active
slot-active state e = not-false (is_active state) e

-- 14
slot-precommitted : (state : SlotState) → slot_not_precommitted state ≡ false → is_precommitted state ≡ true
unfolding slot_not_precommitted slot_precommitted
slot-precommitted state e = not-false (is_precommitted state) e

-- 15
module _ (count : ℕ) (e : count_out_of_range count ≡ false) where
  in-range : (leb 1 count && leb count max_count) ≡ true
  unfolding count_out_of_range count_in_range
  in-range = not-false (leb 1 count && leb count max_count) e

  pub count-some : 1 ≤ count
  count-some = leb-true 1 count (and_first (leb 1 count) (leb count max_count) in-range)

  pub count-few : count ≤ max_count
  count-few = leb-true count max_count (and_second (leb 1 count) (leb count max_count) in-range)

-- 16
list-as-long : (list : List ℕ) (count : ℕ) → list_short list count ≡ false → count ≤ length list
unfolding list_short
list-as-long list count e = ltb-false (length list) count e

-- 17
pub enough-available : (memory : Memory) (count : ℕ) → of_available too_few_available memory count ≡ false → count ≤ length (available memory)
unfolding too_few_available available
enough-available memory count e = ltb-false _ count e

-- 18
pub block-below : (blocks b : ℕ) → block_out_of_range blocks b ≡ false → b < blocks
unfolding block_out_of_range
block-below blocks b e = leb-false blocks b e

-- 2
disk_length : (disk : List ℕ) → disk_length_wrong disk ≡ false → length disk ≡ disk_words
unfolding disk_length_wrong
disk_length disk e = eqb-true (length disk) disk_words (not-false (eqb (length disk) disk_words) e)

-- 19 and 20: SAM 1, and not SAM 1 and COM 0
both-set : (sam «com» : Bool) → sam ≡ true → (sam && not «com») ≡ false → «com» ≡ true
both-set true «com» s e = not-false «com» e
both-set false «com» s e = absurd (false≢true s)

-- 22
pub extent-found : (memory : Memory) (count : ℕ) → no_extent memory count ≡ false → 1 ≤ length (extent_starts memory count)
unfolding no_extent
extent-found memory count e = let some = eqb-false (length (extent_starts memory count)) 0 e in omega (arith, some)

-- 23
fits-reserved : (memory : Memory) (total : ℕ) → of_available over_reserved memory total ≡ false → total ≤ length (available memory)
unfolding over_reserved available
fits-reserved memory total e = ltb-false _ total e

-- 24, and the other way round
others-spared : (memory : Memory) (s count : ℕ) → of_available reserved_for_others memory count (others_reserved memory.reserves s) ≡ false
    → Spares memory s count
unfolding reserved_for_others available
others-spared memory s count e = ltb-false _ (others_reserved memory.reserves s) e

pub spared-others : (memory : Memory) (s count : ℕ) → Spares memory s count
    → of_available reserved_for_others memory count (others_reserved memory.reserves s) ≡ false
unfolding reserved_for_others available
spared-others memory s count h = le-ltb _ (others_reserved memory.reserves s) h

-- ---- the eight transaction calls, commit cost and reserve

-- 1, 8 and 10: the memory is valid, nothing is pending, and the slot is there
pub record Ready (memory : Memory) (s : ℕ) : Type 0 where
  pub is_valid : valid memory ≡ true
  pub none_pending : memory.pending ≡ Nothing
  pub below : s < slot_count

module _ (memory : Memory) (s : ℕ) where
  -- where a list begins with them: that they don't hold, and none of the rest does
  pub ready-then : (more : List Cause) → first (ready_causes (valid memory) memory.pending s ++ more) ≡ none → Ready memory s × NoneHold more
  unfolding memory_invalid
  ready-then more e =
      let c1 = first-none _ e in
      let c8 = c1.1 in
      let c10 = c8.1 in (
        record {
          is_valid = not-false (valid memory) c1.0;
          none_pending = none_pending memory.pending c8.0;
          below = slot-below s c10.0;
        },
        c10.1,
      )

  -- and 11
  pub record StartAccepted : Type 0 where
    pub ready : Ready memory s
    pub idle : is_active (slot_at memory s).state ≡ false

  pub start-accepted : start_error memory s ≡ none → StartAccepted
  unfolding start_error slot_active
  start-accepted e = let t = ready-then _ e in record { ready = t.0; idle = t.1.0 }

  pub record ReserveAccepted (reservation : ℕ) : Type 0 where
    pub ready : Ready memory s
    pub idle : is_active (slot_at memory s).state ≡ false
    pub fits : total_reserved (reserving memory s reservation).reserves ≤ length (available memory)

  pub reserve-accepted : (reservation : ℕ) → reserve_error memory s reservation ≡ none → ReserveAccepted reservation
  unfolding reserve_error slot_active
  reserve-accepted reservation e =
      let t = ready-then _ e in
      let c11 = t.1 in
      let c23 = c11.1 in
      record { ready = t.0; idle = c11.0; fits = fits-reserved memory _ c23.0 }

  -- and 12: what drop and revoke tell alike
  pub record RollbackAccepted : Type 0 where
    pub ready : Ready memory s
    pub active : is_active (slot_at memory s).state ≡ true

  pub active-then : (more : List Cause) → first (of_slot active_causes memory s ++ more) ≡ none → RollbackAccepted × NoneHold more
  active-then more e =
      let t = ready-then _ e in
      let c12 = t.1 in
      (record { ready = t.0; active = slot-active _ c12.0 }, c12.1)

  -- and the other way round
  accepted-active : RollbackAccepted → first (of_slot active_causes memory s) ≡ none
  unfolding first first_or memory_invalid work_pending nothing_pending is_nothing slot_out_of_range slot_in_range slot_inactive slot_active
  accepted-active a = rw (a.ready.is_valid, a.ready.none_pending, lt-ltb s slot_count a.ready.below, a.active)

  -- and 13: an open slot
  pub record PrecommitAccepted : Type 0 where
    pub ready : Ready memory s
    pub active : is_active (slot_at memory s).state ≡ true
    pub not_precommitted : is_precommitted (slot_at memory s).state ≡ false

  -- whichever error 13 has
  open-then : (error : Error) (more : List Cause) → first (of_slot active_causes memory s ++ (slot_precommitted (slot_at memory s).state ⇒ error ∷ more)) ≡ none
      → PrecommitAccepted × NoneHold more
  unfolding slot_precommitted
  open-then error more e =
      let t = active-then _ e in
      let c13 = t.1 in
      (record { ready = t.0.ready; active = t.0.active; not_precommitted = c13.0 }, c13.1)

  pub precommit-accepted : precommit_error memory s ≡ none → PrecommitAccepted
  unfolding precommit_error
  precommit-accepted e = (open-then _ [] e).0

  -- and the other way round
  pub accepted-precommit : PrecommitAccepted → precommit_error memory s ≡ none
  unfolding precommit_error slot_precommitted
  accepted-precommit a =
      none-append (of_slot active_causes memory s) _ (accepted-active (record { ready = a.ready; active = a.active }))
      ∙ none_first _ (a.not_precommitted, tt)

  -- a drop tells what a precommit does
  pub drop-accepted : drop_error memory s ≡ none → PrecommitAccepted
  unfolding drop_error
  drop-accepted e = (open-then _ [] e).0

  pub drop-rolls-back : drop_error memory s ≡ none → RollbackAccepted
  drop-rolls-back e = let a = drop-accepted e in record { ready = a.ready; active = a.active }

  pub record AllocateAccepted (count : ℕ) (list : List ℕ) : Type 0 where
    pub ready : Ready memory s
    pub active : is_active (slot_at memory s).state ≡ true
    pub not_precommitted : is_precommitted (slot_at memory s).state ≡ false
    pub some : 1 ≤ count
    pub few : count ≤ max_count
    pub room : count ≤ length list
    pub enough : count ≤ length (available memory)
    pub spares : Spares memory s count

  pub allocate-accepted : (count : ℕ) (list : List ℕ) → allocate_error memory s count list ≡ none → AllocateAccepted count list
  unfolding allocate_error
  allocate-accepted count list e =
      let t = open-then _ _ e in
      let c15 = t.1 in
      let c16 = c15.1 in
      let c17 = c16.1 in
      let c24 = c17.1 in
      record {
        ready = t.0.ready;
        active = t.0.active;
        not_precommitted = t.0.not_precommitted;
        some = count-some count c15.0;
        few = count-few count c15.0;
        room = list-as-long list count c16.0;
        enough = enough-available memory count c17.0;
        spares = others-spared memory s count c24.0;
      }

  pub record AllocateExtentAccepted (count near : ℕ) (list : List ℕ) : Type 0 where
    pub ready : Ready memory s
    pub active : is_active (slot_at memory s).state ≡ true
    pub not_precommitted : is_precommitted (slot_at memory s).state ≡ false
    pub some : 1 ≤ count
    pub few : count ≤ max_count
    pub room : count ≤ length list
    pub near-below : near < memory.blocks
    pub found : 1 ≤ length (extent_starts memory count)
    pub spares : Spares memory s count

  pub allocate-extent-accepted : (count near : ℕ) (list : List ℕ) → allocate_extent_error memory s count near list ≡ none → AllocateExtentAccepted count near list
  unfolding allocate_extent_error
  allocate-extent-accepted count near list e =
      let t = open-then _ _ e in
      let c15 = t.1 in
      let c16 = c15.1 in
      let c18 = c16.1 in
      let c22 = c18.1 in
      let c24 = c22.1 in
      record {
        ready = t.0.ready;
        active = t.0.active;
        not_precommitted = t.0.not_precommitted;
        some = count-some count c15.0;
        few = count-few count c15.0;
        room = list-as-long list count c16.0;
        near-below = block-below memory.blocks near c18.0;
        found = extent-found memory count c22.0;
        spares = others-spared memory s count c24.0;
      }

  pub record DeallocateAccepted (block : ℕ) : Type 0 where
    pub ready : Ready memory s
    pub active : is_active (slot_at memory s).state ≡ true
    pub not_precommitted : is_precommitted (slot_at memory s).state ≡ false
    pub block-below : block < memory.blocks
    pub allocated : sam_bit memory block ≡ true
    pub unfreed : com_bit memory block ≡ true

  pub deallocate-accepted : (block : ℕ) → deallocate_error memory s block ≡ none → DeallocateAccepted block
  unfolding deallocate_error block_free block_freeing
  deallocate-accepted block e =
      let t = open-then _ _ e in
      let c18 = t.1 in
      let c19 = c18.1 in
      let c20 = c19.1 in
      let allocated : sam_bit memory block ≡ true = not-false (sam_bit memory block) c19.0 in
      record {
        ready = t.0.ready;
        active = t.0.active;
        not_precommitted = t.0.not_precommitted;
        block-below = block-below memory.blocks block c18.0;
        allocated = allocated;
        unfreed = both-set (sam_bit memory block) (com_bit memory block) allocated c20.0;
      }

  pub record CommitCostAccepted (count : ℕ) : Type 0 where
    pub ready : Ready memory s
    pub active : is_active (slot_at memory s).state ≡ true
    pub not_precommitted : is_precommitted (slot_at memory s).state ≡ false
    pub few : count ≤ max_count
    pub enough : count ≤ length (available memory)
    pub spares : Spares memory s count

  pub commit-cost-accepted : (count : ℕ) → commit_cost_error memory s count ≡ none → CommitCostAccepted count
  unfolding commit_cost_error count_too_large
  commit-cost-accepted count e =
      let t = open-then _ _ e in
      let c15 = t.1 in
      let c17 = c15.1 in
      let c24 = c17.1 in
      record {
        ready = t.0.ready;
        active = t.0.active;
        not_precommitted = t.0.not_precommitted;
        few = ltb-false max_count count c15.0;
        enough = enough-available memory count c17.0;
        spares = others-spared memory s count c24.0;
      }

  -- and the other way round: an open slot, as precommit asks for it, and the count
  pub accepted-commit-cost : (count : ℕ) → CommitCostAccepted count → commit_cost_error memory s count ≡ none
  unfolding precommit_error commit_cost_error count_too_large too_few_available available
  accepted-commit-cost count a =
      none-append (of_slot open_causes memory s) _
      (accepted-precommit (record { ready = a.ready; active = a.active; not_precommitted = a.not_precommitted }))
      ∙ none_first _ (le-ltb max_count count a.few, (le-ltb _ count a.enough, (spared-others memory s count a.spares, tt)))

  -- and 14: a precommitted slot
  pub record CommitAccepted : Type 0 where
    pub ready : Ready memory s
    pub active : is_active (slot_at memory s).state ≡ true
    pub precommitted : is_precommitted (slot_at memory s).state ≡ true

  precommitted-then : (error : Error) → first (of_slot active_causes memory s ++ (slot_not_precommitted (slot_at memory s).state ⇒ error ∷ [])) ≡ none → CommitAccepted
  precommitted-then error e =
      let t = active-then _ e in
      let c14 = t.1 in
      record { ready = t.0.ready; active = t.0.active; precommitted = slot-precommitted _ c14.0 }

  pub commit-accepted : commit_error memory s ≡ none → CommitAccepted
  unfolding commit_error
  commit-accepted e = precommitted-then _ e

  -- and the other way round
  pub accepted-commit : CommitAccepted → commit_error memory s ≡ none
  unfolding commit_error slot_not_precommitted slot_precommitted
  accepted-commit a =
      none-append (of_slot active_causes memory s) _ (accepted-active (record { ready = a.ready; active = a.active }))
      ∙ none_first _ (ap not a.precommitted, tt)

  -- a revoke tells what a commit does
  pub revoke-accepted : revoke_error memory s ≡ none → CommitAccepted
  unfolding revoke_error
  revoke-accepted e = precommitted-then _ e

  pub revoke-rolls-back : revoke_error memory s ≡ none → RollbackAccepted
  revoke-rolls-back e = let a = revoke-accepted e in record { ready = a.ready; active = a.active }

-- ---- store

module _ (memory : Memory) (disk : List ℕ) where
  pub record StoreAccepted : Type 0 where
    pub is_valid : valid memory ≡ true
    pub size : length disk ≡ disk_words
    pub matches : disk_matches memory disk memory.pending ≡ true
    pub pending : is_nothing memory.pending ≡ false

  pub store-accepted : store_error memory disk ≡ none → StoreAccepted
  unfolding store_error memory_invalid disk_mismatched disk_matches nothing_pending
  store-accepted e =
      let c1 = first-none _ e in
      let c2 = c1.1 in
      let c6 = c2.1 in
      let c9 = c6.1 in
      record {
        is_valid = not-false (valid memory) c1.0;
        size = disk_length disk c2.0;
        matches = not-false (disk_matches memory disk memory.pending) c6.0;
        pending = c9.0;
      }

  pub accepted-store : StoreAccepted → store_error memory disk ≡ none
  unfolding store_error memory_invalid disk_length_wrong disk_mismatched disk_matches nothing_pending
  accepted-store a =
      none_first _
      (ap not a.is_valid, (ap not (eq-eqb (length disk) disk_words a.size), (ap not a.matches, (a.pending, tt))))

-- ---- format

pub accepted-format : (disk : List ℕ) (blocks : ℕ) → length disk ≡ disk_words → blocks_in_range blocks ≡ true → format_error disk blocks ≡ none
unfolding format_error disk_length_wrong blocks_out_of_range
accepted-format disk blocks size range = none_first _ (ap not (eq-eqb (length disk) disk_words size), (ap not range, tt))
