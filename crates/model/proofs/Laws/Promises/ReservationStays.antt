-- What is reserved after each call: nothing after an open and a crash, and else a reservation for each slot as before; which of them
-- stay (specs/Promises/Reservations.antt).
use Prim.Native.Nat.{ℕ, zero, suc, ◌+◌}
use mathlib.Core.Path.{◌≡◌, refl, sym, ap, ◌∙◌, subst}
use mathlib.Core.Bool.{Bool, true, false, ◌&&◌, true≢false}
use mathlib.Core.Option.{Option, none, some}
use mathlib.Core.List.{List, [], ◌∷◌}
use lib.ListN.{length, get_or, set, length-set}
use lib.Seq.{get_or-set_other}
use lib.Dec.{eqb}
use borrow.Author.Tests.{eqb-true, eqb-false}
use Rattle.bitmap.specs.Sizes.{slot_count}
use Rattle.model.specs.Types.{Error, Pending, Commit, Reserve, Memory}
use Rattle.model_types.specs.Memory.{reserve_at, no_reserve, no_reserves, zero_memory}
use Rattle.model.specs.Rules.First.{unless_refused}
use Rattle.model.specs.Rules.Reserves.{used_up}
use Rattle.model.specs.Rules.Commit.{committed}
use Rattle.model.specs.Rules.Pending.{finished, begun, is_commit_of}
use Rattle.model.specs.Rules.Calls.Open.{open_error, opened, open_memory}
use Rattle.model.specs.Rules.Calls.Store.{advanced}
use Rattle.model.specs.Rules.Outcome.{outcome}
use Rattle.model.specs.Rules.Work.{Change, Work, open_work, crash_work, store_work, begin_work, change_work, bearing, changed, worked}
use Rattle.model.specs.Promises.Reservations.{ReservationsWiped, changes_reservation, ReservationStays, together, changes_together, TogetherStays}
use Rattle.model.proofs.Laws.Works.Work.{Fails, by-failing}
use Rattle.model.proofs.Laws.Works.Change.{change-frame}
use Rattle.model.proofs.Laws.Works.Progress.{by-finish, by-store, by-begin}

-- ---- what holds of the reserves

module _ (P : List Reserve → Type 0) (memory : Memory) (old : P memory.reserves) where
  -- where a commit of slot t ends, what that slot has drawn is used up
  abbrev UsedUp : ℕ → Type 0
  UsedUp t = P (set memory.reserves t (used_up (reserve_at memory t)))

  abbrev Kept : Memory → Type 0
  Kept m = P m.reserves

  finish-kept : (p : Pending) → ((t done due : ℕ) → p ≡ Commit t done due → UsedUp t) → Kept (finished memory p)
  unfolding committed
  finish-kept p used = by-finish Kept memory old old p used

  -- it may end with its call, and with a store
  begin-kept : (p : Pending) → ((t done due : ℕ) → p ≡ Commit t done due → UsedUp t) → Kept (begun memory p)
  begin-kept p used = by-begin Kept memory p (finish-kept p used) old

  store_kept : ((t done due : ℕ) → memory.pending ≡ Commit t done due → UsedUp t) → Kept (advanced memory memory.pending)
  store_kept used = by-store Kept memory memory.pending (finish-kept memory.pending used) old

-- ---- a reservation for each slot

-- both memories that an open can leave have nothing reserved
left-none : (error : Option Error) (disk : List ℕ) → (unless_refused error (opened disk) zero_memory).reserves ≡ no_reserves
unfolding unless_refused opened
left-none none disk = refl
left-none (some error) disk = refl

pub reservations-wiped : ReservationsWiped
unfolding outcome open_memory
reservations-wiped memory disk = (left-none (open_error disk) disk, refl)

module _ (memory : Memory) (eight : length memory.reserves ≡ slot_count) where
  abbrev Eight : List Reserve → Type 0
  Eight reserves = length reserves ≡ slot_count

  -- work by work
  pub eight-worked : (new : Work) (disk : List ℕ) → Eight (worked new memory disk).reserves
  unfolding worked opened
  eight-worked open_work disk = refl
  eight-worked crash_work disk = refl
  eight-worked store_work disk = store_kept Eight memory eight (λ t done due e. length-set memory.reserves t _ ∙ eight)
  eight-worked (begin_work new) disk = begin-kept Eight memory eight new (λ t done due e. length-set memory.reserves t _ ∙ eight)
  eight-worked (change_work t change) disk = (change-frame memory t change).reserves.size ∙ eight

-- ---- a reservation that stays

-- what is drawn may be used up, and the reservation of no slot changes
used-up-same : (reserves : List Reserve) (t s : ℕ)
    → (get_or (set reserves t (used_up (get_or reserves t no_reserve))) s no_reserve).reservation ≡ (get_or reserves s no_reserve).reservation
unfolding used_up
used-up-same [] t s = refl
used-up-same (reserve ∷ reserves) zero zero = refl
used-up-same (reserve ∷ reserves) zero (suc s) = refl
used-up-same (reserve ∷ reserves) (suc t) zero = refl
used-up-same (reserve ∷ reserves) (suc t) (suc s) = used-up-same reserves t s

module _ (s : ℕ) (memory : Memory) where
  -- in these reserves it is what it was
  abbrev Same : List Reserve → Type 0
  Same reserves = (get_or reserves s no_reserve).reservation ≡ (reserve_at memory s).reservation

  used-up : (t : ℕ) → Same (set memory.reserves t (used_up (reserve_at memory t)))
  used-up t = used-up-same memory.reserves t s

  -- a change of slot t
  changed-same : (t : ℕ) (change : Change) (own : Bool) → eqb t s ≡ own → (own && (bearing change).alters) ≡ false
      → Same (changed change memory t).reserves
  changed-same t change true q e =
      ap (λ (x : Reserve). x.reservation)
      (subst (λ (x : ℕ). get_or (changed change memory t).reserves x no_reserve ≡ reserve_at memory x) (eqb-true t s q) ((change-frame memory t change).own e))
  changed-same t change false q e = ap (λ (x : Reserve). x.reservation) ((change-frame memory t change).reserves.others s (λ o. eqb-false t s q (sym o)))

  -- work by work
  pub reservation-worked : (new : Work) (disk : List ℕ) → Fails (changes_reservation s) new memory → Same (worked new memory disk).reserves
  unfolding changes_reservation worked
  reservation-worked open_work disk e = absurd (true≢false e)
  reservation-worked crash_work disk e = absurd (true≢false e)
  reservation-worked store_work disk e = store_kept Same memory refl (λ t done due p. used-up t)
  reservation-worked (begin_work new) disk e = begin-kept Same memory refl new (λ t done due p. used-up t)
  reservation-worked (change_work t change) disk e = changed-same t change (eqb t s) refl e

pub reservation-stays : ReservationStays
reservation-stays s call memory disk e =
    by-failing (λ m. (reserve_at m s).reservation ≡ (reserve_at memory s).reservation) (changes_reservation s) (λ new m d f p. reservation-worked s m new d f ∙ p) call memory disk e refl

-- ---- with what is drawn of it

module _ (s : ℕ) (memory : Memory) where
  abbrev SameSum : List Reserve → Type 0
  SameSum reserves = (get_or reserves s no_reserve).reservation + (get_or reserves s no_reserve).drawn ≡ together memory s

  -- another slot's reserve
  other-sum : (t : ℕ) (reserve : Reserve) → eqb t s ≡ false → SameSum (set memory.reserves t reserve)
  other-sum t reserve other =
      ap (λ (x : Reserve). x.reservation + x.drawn)
      (get_or-set_other memory.reserves t s reserve no_reserve (λ e. eqb-false t s other (sym e)))

  -- a change of slot t
  changed-sum : (t : ℕ) (change : Change) (own : Bool) → eqb t s ≡ own → (own && (bearing change).sets_aside) ≡ false → SameSum (changed change memory t).reserves
  changed-sum t change true q e =
      subst (λ (x : ℕ). together (changed change memory t) x ≡ together memory x) (eqb-true t s q) ((change-frame memory t change).sum e)
  changed-sum t change false q e =
      ap (λ (x : Reserve). x.reservation + x.drawn) ((change-frame memory t change).reserves.others s (λ o. eqb-false t s q (sym o)))

  -- work by work
  pub together-worked : (new : Work) (disk : List ℕ) → Fails (changes_together s) new memory → SameSum (worked new memory disk).reserves
  unfolding changes_together worked
  together-worked open_work disk e = absurd (true≢false e)
  together-worked crash_work disk e = absurd (true≢false e)
  together-worked store_work disk e = store_kept SameSum memory refl (λ t done due p. other-sum t _ (sym (ap (is_commit_of s) p) ∙ e))
  together-worked (begin_work new) disk e = begin-kept SameSum memory refl new (λ t done due p. other-sum t _ (sym (ap (is_commit_of s) p) ∙ e))
  together-worked (change_work t change) disk e = changed-sum t change (eqb t s) refl e

pub together-stays : TogetherStays
together-stays s call memory disk e =
    by-failing (λ m. together m s ≡ together memory s) (changes_together s) (λ new m d f p. together-worked s m new d f ∙ p) call memory disk e refl
