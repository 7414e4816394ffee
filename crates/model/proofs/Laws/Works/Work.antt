-- A call does its works: the memory and disk that it leaves are theirs, and where there is work the call was accepted. Call by call
-- here, once for all theorems.
use Prim.Native.Nat.{ℕ}
use mathlib.Core.Path.{◌≡◌, refl, sym, ap, ap₂, ◌∙◌, subst, subst₂}
use mathlib.Core.Logic.{◌⊎◌, inl, inr, ⊎_elim}
use mathlib.Core.Bool.{Bool, false, true≢false}
use mathlib.Core.Option.{Option, none, some}
use mathlib.Core.List.{List, [], ◌∷◌, ◌++◌}
use lib.ListN.{length}
use Rattle.model.specs.Types.{Error, Pending, Nothing, Commit, Recovery, Memory}
use Rattle.model_types.specs.Memory.{zero_memory}
use Rattle.model.specs.Rules.First.{unless_refused}
use Rattle.model.specs.Rules.Pending.{begun}
use Rattle.model.specs.Rules.Calls.Open.{open_error, opened, open_memory}
use Rattle.model.specs.Rules.Calls.Start.{start_memory}
use Rattle.model.specs.Rules.Calls.Allocate.{allocate_memory}
use Rattle.model.specs.Rules.Calls.AllocateExtent.{allocate_extent_memory}
use Rattle.model.specs.Rules.Calls.Deallocate.{deallocate_memory}
use Rattle.model.specs.Rules.Calls.Precommit.{precommit_memory}
use Rattle.model.specs.Rules.Calls.Commit.{commit_error, committing, commit_memory}
use Rattle.model.specs.Rules.Calls.Drop.{drop_memory}
use Rattle.model.specs.Rules.Calls.Revoke.{revoke_memory}
use Rattle.model.specs.Rules.Calls.Store.{store_memory, store_disk}
use Rattle.model.specs.Rules.Calls.Reserve.{reserve_memory}
use Rattle.model.specs.Rules.Outcome.{Call, outcome, open_call, start_call, allocate_call, allocate_extent_call, deallocate_call, precommit_call, commit_call, drop_call, revoke_call, store_call, status_call, commit_cost_call, reserve_call, crash_call}
use Rattle.model.specs.Rules.Work.{Change, start_change, precommit_change, drop_change, revoke_change, grant_change, free_change, reserve_change, Work, open_work, crash_work, store_work, begin_work, change_work, changed, worked, worked_disk, worked_all, works, works_in, some_work}
use Rattle.model.specs.Rules.Completion.{State, after_calls}
use Rattle.model.proofs.Laws.Calls.Accepted.{Ready, StartAccepted, start-accepted, ReserveAccepted, reserve-accepted, DeallocateAccepted, deallocate-accepted, PrecommitAccepted, precommit-accepted, drop-accepted, CommitAccepted, commit-accepted, revoke-accepted, StoreAccepted, store-accepted}
use Rattle.model.proofs.Laws.Disk.Writes.{or-none}
use Rattle.model.proofs.Laws.Works.Progress.{committing-begun}
use Rattle.model.proofs.Laws.Memory.Granting.{Grants, allocate-grants, allocate-extent-grants}

-- ---- works one after the other

-- something holds of each work, where it stands
abbrev pub EachWork : (Work → Memory → List ℕ → Type 0) → List Work → Memory → List ℕ → Type 0
EachWork Is [] memory disk = Unit {0}
EachWork Is (new ∷ rest) memory disk = Is new memory disk × EachWork Is rest (worked new memory disk) (worked_disk new memory disk)

-- what each work keeps all of them keep
pub walk : (P : Memory → List ℕ → Type 0) (Is : Work → Memory → List ℕ → Type 0)
    → ((new : Work) (memory : Memory) (disk : List ℕ) → Is new memory disk → P memory disk → P (worked new memory disk) (worked_disk new memory disk))
    → (all : List Work) (memory : Memory) (disk : List ℕ)
    → EachWork Is all memory disk
    → P memory disk
    → P (worked_all all memory disk).memory (worked_all all memory disk).disk
unfolding worked_all
walk P Is one [] memory disk each p = p
walk P Is one (new ∷ rest) memory disk (here, later) p =
    walk P Is one rest (worked new memory disk) (worked_disk new memory disk) later (one new memory disk here p)

-- where none passes a test, each fails it
abbrev pub Fails : (Work → Pending → Bool) → Work → Memory → Type 0
Fails test new memory = test new memory.pending ≡ false

pub each-fails : (Is : Work → Memory → List ℕ → Type 0) (test : Work → Pending → Bool) (all : List Work) (memory : Memory) (disk : List ℕ)
    → EachWork Is all memory disk
    → some_work test all memory disk ≡ false
    → EachWork (λ new m d. Is new m d × Fails test new m) all memory disk
unfolding some_work
each-fails Is test [] memory disk each None-passes = tt
each-fails Is test (new ∷ rest) memory disk (here, later) None-passes =
    let two = or-none _ _ None-passes in
    ((here, two.0), each-fails Is test rest (worked new memory disk) (worked_disk new memory disk) later two.1)

-- what holds of each, so does what follows
pub each-is : (Is Then : Work → Memory → List ℕ → Type 0) → ((new : Work) (memory : Memory) (disk : List ℕ) → Is new memory disk → Then new memory disk)
    → (all : List Work) (memory : Memory) (disk : List ℕ) → EachWork Is all memory disk → EachWork Then all memory disk
each-is Is Then one [] memory disk each = tt
each-is Is Then one (new ∷ rest) memory disk (here, later) =
    (one new memory disk here, each-is Is Then one rest (worked new memory disk) (worked_disk new memory disk) later)

-- a list of works, and then another
module _ (more : List Work) where
  pub worked-append : (all : List Work) (memory : Memory) (disk : List ℕ)
      → worked_all (all ++ more) memory disk ≡ worked_all more (worked_all all memory disk).memory (worked_all all memory disk).disk
  unfolding worked_all
  worked-append [] memory disk = refl
  worked-append (new ∷ rest) memory disk = worked-append rest (worked new memory disk) (worked_disk new memory disk)

  pub each_append : (Is : Work → Memory → List ℕ → Type 0) (all : List Work) (memory : Memory) (disk : List ℕ)
      → EachWork Is all memory disk
      → EachWork Is more (worked_all all memory disk).memory (worked_all all memory disk).disk
      → EachWork Is (all ++ more) memory disk
  unfolding worked_all
  each_append Is [] memory disk each then = then
  each_append Is (new ∷ rest) memory disk (here, later) then =
      (here, each_append Is rest (worked new memory disk) (worked_disk new memory disk) later then)

-- ---- a call

-- what a change tells of the call that made it: its causes didn't hold
abbrev pub ChangeMade : Change → Memory → ℕ → Type 0
ChangeMade start_change memory s = StartAccepted memory s
ChangeMade precommit_change memory s = PrecommitAccepted memory s
ChangeMade drop_change memory s = PrecommitAccepted memory s
ChangeMade revoke_change memory s = CommitAccepted memory s
ChangeMade (grant_change blocks) memory s = Grants memory s (length blocks) blocks
ChangeMade (free_change block) memory s = DeallocateAccepted memory s block
ChangeMade (reserve_change reservation) memory s = ReserveAccepted memory s reservation

-- what work that begins tells: it is a commit that wasn't refused
abbrev pub BeginMade : Pending → Memory → Type 0
BeginMade Nothing memory = ⊥
BeginMade (Commit s done due) memory = CommitAccepted memory s × (committing memory s ≡ begun memory (Commit s done due))
BeginMade (Recovery done due) memory = ⊥

-- by which kind it is
pub by-begun : (P : Pending → Type 0) (memory : Memory)
    → ((s done due : ℕ) → CommitAccepted memory s → committing memory s ≡ begun memory (Commit s done due) → P (Commit s done due))
    → (new : Pending) → BeginMade new memory → P new
by-begun P memory commit Nothing made = absurd made
by-begun P memory commit (Commit s done due) (a, e) = commit s done due a e
by-begun P memory commit (Recovery done due) made = absurd made

-- and what a work tells. Only a crash tells which call it was
abbrev pub Made : Call → Work → Memory → List ℕ → Type 0
Made call open_work memory disk = open_error disk ≡ none
Made call crash_work memory disk = (call ≡ crash_call) ⊎ ((call ≡ open_call) × (open_error disk ≡ none → ⊥))
Made call store_work memory disk = StoreAccepted memory disk
Made call (begin_work new) memory disk = BeginMade new memory
Made call (change_work s change) memory disk = Ready memory s × ChangeMade change memory s

pub record Does (call : Call) (memory : Memory) (disk : List ℕ) (all : List Work) : Type 0 where
  pub leaves : (outcome call memory disk).memory ≡ (worked_all all memory disk).memory
  pub writes : (outcome call memory disk).disk ≡ (worked_all all memory disk).disk
  pub made : EachWork (Made call) all memory disk

module _ (call : Call) (memory : Memory) (disk : List ℕ) where
  -- a call that does one work, or is refused
  unless : (error : Option Error) (new : Work)
      → (outcome call memory disk).memory ≡ unless_refused error (worked new memory disk) memory
      → (outcome call memory disk).disk ≡ unless_refused error (worked_disk new memory disk) disk
      → (error ≡ none → Made call new memory disk)
      → Does call memory disk (unless_refused error (new ∷ []) [])
  unfolding unless_refused worked_all
  unless none new leaves writes accepted = record { leaves = leaves; writes = writes; made = (accepted refl, tt) }
  unless (some error) new leaves writes accepted = record { leaves = leaves; writes = writes; made = tt }

  -- a work on memory alone
  on-memory : (error : Option Error) (new : Work)
      → (outcome call memory disk).memory ≡ unless_refused error (worked new memory disk) memory
      → (outcome call memory disk).disk ≡ disk
      → worked_disk new memory disk ≡ disk
      → (error ≡ none → Made call new memory disk)
      → Does call memory disk (unless_refused error (new ∷ []) [])
  unfolding unless_refused
  on-memory error new leaves writes same = unless error new leaves (writes ∙ sym (either error))
    where
      either : (e : Option Error) → unless_refused e (worked_disk new memory disk) disk ≡ disk
      either none = same
      either (some x) = refl

-- ---- a call made of several

-- each of these calls is so, and, made in turn, does its works
abbrev pub InTurn : (Call → Type 0) → List Call → Memory → List ℕ → Type 0
InTurn Is [] memory disk = Unit {0}
InTurn Is (call ∷ calls) memory disk =
    Is call × Does call memory disk (works call memory disk) × InTurn Is calls (outcome call memory disk).memory (outcome call memory disk).disk

module _ (Is : Call → Type 0) where
  -- what each call tells of its works holds of all these works,
  turn-told : (Told : Work → Memory → List ℕ → Type 0)
      → ((call : Call) → Is call → (new : Work) (memory : Memory) (disk : List ℕ) → Made call new memory disk → Told new memory disk)
      → (calls : List Call) (memory : Memory) (disk : List ℕ) → InTurn Is calls memory disk → EachWork Told (works_in calls memory disk) memory disk
  unfolding works_in
  turn-told Told one [] memory disk turn = tt
  turn-told Told one (call ∷ calls) memory disk (is, d, later) =
      let all : List Work = works call memory disk in
      let next : List Work = works_in calls (outcome call memory disk).memory (outcome call memory disk).disk in
      each_append next Told all memory disk (each-is (Made call) Told (one call is) all memory disk d.made)
      (subst₂ (EachWork Told next) d.leaves d.writes (turn-told Told one calls (outcome call memory disk).memory (outcome call memory disk).disk later))

  -- and they leave what the calls leave
  turn-leaves : (calls : List Call) (memory : Memory) (disk : List ℕ) → InTurn Is calls memory disk
      → after_calls calls memory disk ≡ worked_all (works_in calls memory disk) memory disk
  unfolding works_in after_calls worked_all
  turn-leaves [] memory disk turn = refl
  turn-leaves (call ∷ calls) memory disk (is, d, later) =
      let next : List Work = works_in calls (outcome call memory disk).memory (outcome call memory disk).disk in
      turn-leaves calls (outcome call memory disk).memory (outcome call memory disk).disk later
      ∙ ap₂ (worked_all next) d.leaves d.writes
      ∙ sym (worked-append next (works call memory disk) memory disk)

-- neither an open nor a crash: only these do a crash, which alone tells the call that made it
abbrev pub WithinUse : Call → Type 0
WithinUse call = (call ≡ open_call → ⊥) × (call ≡ crash_call → ⊥)

made_by : (call other : Call) → WithinUse other → (new : Work) (memory : Memory) (disk : List ℕ) → Made other new memory disk → Made call new memory disk
made_by call other within open_work memory disk made = made
made_by call other within crash_work memory disk made = ⊎_elim (λ e. absurd (within.1 e)) (λ refused. absurd (within.0 refused.0)) made
made_by call other within store_work memory disk made = made
made_by call other within (begin_work new) memory disk made = made
made_by call other within (change_work s change) memory disk made = made

-- a call that leaves what several of them leave in turn does their works: one clause of `does` below
pub made_of : (call : Call) (calls : List Call) (memory : Memory) (disk : List ℕ) → InTurn WithinUse calls memory disk
    → (outcome call memory disk).memory ≡ (after_calls calls memory disk).memory
    → (outcome call memory disk).disk ≡ (after_calls calls memory disk).disk
    → Does call memory disk (works_in calls memory disk)
made_of call calls memory disk turn leaves writes =
    let same = turn-leaves WithinUse calls memory disk turn in
    record {
      leaves = leaves ∙ ap (λ (x : State). x.memory) same;
      writes = writes ∙ ap (λ (x : State). x.disk) same;
      made = turn-told WithinUse (Made call) (made_by call) calls memory disk turn;
    }

-- ---- each call

-- a grant of so many blocks
counted : {memory : Memory} {s count : ℕ} {blocks : List ℕ} → Grants memory s count blocks
    → Ready memory s × Grants memory s (length blocks) blocks
counted {memory} {s} {count} {blocks} g = (g.ready, subst (λ (n : ℕ). Grants memory s n blocks) (sym g.size) g)

-- an open leaves nothing of the memory, refused or not
open-does : (memory : Memory) (disk : List ℕ) (error : Option Error) → open_error disk ≡ error
    → (outcome open_call memory disk).memory ≡ unless_refused error (opened disk) zero_memory
    → (outcome open_call memory disk).disk ≡ disk
    → Does open_call memory disk (unless_refused error (open_work ∷ []) (crash_work ∷ []))
unfolding unless_refused worked worked_disk worked_all
open-does memory disk none e leaves writes = record { leaves = leaves; writes = writes; made = (e, tt) }
open-does memory disk (some x) e leaves writes = record { leaves = leaves; writes = writes; made = (inr (refl, λ f. true≢false (cc)), tt) }

pub does : (call : Call) (memory : Memory) (disk : List ℕ) → Does call memory disk (works call memory disk)
unfolding works outcome worked worked_disk worked_all changed open_memory start_memory allocate_memory allocate_extent_memory deallocate_memory precommit_memory commit_memory drop_memory revoke_memory store_memory store_disk reserve_memory
does open_call memory disk = open-does memory disk (open_error disk) refl refl refl
does (start_call s) memory disk = on-memory _ _ _ _ _ refl refl refl (λ e. let a = start-accepted memory s e in (a.ready, a))
does (allocate_call s count list) memory disk = on-memory _ _ _ _ _ refl refl refl (λ e. counted (allocate-grants memory s count list e))
does (allocate_extent_call s count near list) memory disk = on-memory _ _ _ _ _ refl refl refl (λ e. counted (allocate-extent-grants memory s count near list e))
does (deallocate_call s block) memory disk = on-memory _ _ _ _ _ refl refl refl (λ e. let a = deallocate-accepted memory s block e in (a.ready, a))
does (precommit_call s) memory disk = on-memory _ _ _ _ _ refl refl refl (λ e. let a = precommit-accepted memory s e in (a.ready, a))
does (commit_call s) memory disk =
    let begins = committing-begun memory s in
    on-memory _ _ _ _ _ (ap (λ (m : Memory). unless_refused (commit_error memory s) m memory) begins) refl refl (λ e. (commit-accepted memory s e, begins))
does (drop_call s) memory disk = on-memory _ _ _ _ _ refl refl refl (λ e. let a = drop-accepted memory s e in (a.ready, a))
does (revoke_call s) memory disk = on-memory _ _ _ _ _ refl refl refl (λ e. let a = revoke-accepted memory s e in (a.ready, a))
does store_call memory disk = unless _ _ _ _ _ refl refl (store-accepted memory disk)
does status_call memory disk = record { leaves = refl; writes = refl; made = tt }
does (commit_cost_call s count) memory disk = record { leaves = refl; writes = refl; made = tt }
does (reserve_call s reservation) memory disk = on-memory _ _ _ _ _ refl refl refl (λ e. let a = reserve-accepted memory s reservation e in (a.ready, a))
does crash_call memory disk = record { leaves = refl; writes = refl; made = (inl refl, tt) }

-- ---- calls in turn

calls-do : (calls : List Call) (memory : Memory) (disk : List ℕ) → InTurn (λ _. Unit {0}) calls memory disk
calls-do [] memory disk = tt
calls-do (call ∷ calls) memory disk = (tt, does call memory disk, calls-do calls (outcome call memory disk).memory (outcome call memory disk).disk)

-- each of their works was made by a call
abbrev pub SomeMade : Work → Memory → List ℕ → Type 0
SomeMade new memory disk = (call : Call) × Made call new memory disk

pub calls-made : (calls : List Call) (memory : Memory) (disk : List ℕ) → EachWork SomeMade (works_in calls memory disk) memory disk
calls-made calls memory disk = turn-told (λ _. Unit {0}) SomeMade (λ call _ new m d made. (call, made)) calls memory disk (calls-do calls memory disk)

-- ---- what works keep

-- what every work keeps that fails a test, every call of such works keeps
pub by-failing : (P : Memory → Type 0) (test : Work → Pending → Bool)
    → ((new : Work) (memory : Memory) (disk : List ℕ) → Fails test new memory → P memory → P (worked new memory disk))
    → (call : Call) (memory : Memory) (disk : List ℕ)
    → some_work test (works call memory disk) memory disk ≡ false
    → P memory
    → P (outcome call memory disk).memory
by-failing P test one call memory disk None-passes p =
    let d = does call memory disk in
    subst P (sym d.leaves)
    (walk (λ m _. P m) _ (λ new m disk is. one new m disk is.1) (works call memory disk) memory disk
    (each-fails (Made call) test (works call memory disk) memory disk d.made None-passes) p)
