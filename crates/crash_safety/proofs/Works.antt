-- Steps and runs by their works (crates/model/specs/Rules/Work.antt): what the ledger gets of each work, and the world after it. The ledger is
-- fed calls and answers alone (specs/World.antt, `events`); that this comes to the following, work by work, is a law of all calls.
use Prim.Native.Nat.{ℕ}
use mathlib.Core.Path.{◌≡◌, refl, sym, ap, ap₂, ◌∙◌, subst}
use mathlib.Core.Bool.{Bool, cond}
use mathlib.Core.Option.{Option, none, some}
use mathlib.Core.List.{List, [], ◌∷◌, ◌++◌}
use lib.ListN.{length, take, drop, get_or}
use lib.Seq.{take_at, get_or-set_other}
use lib.Dec.{eqb}
use Rattle.model_types.specs.declared.error.Error.{Error}
use Rattle.model_types.specs.declared.memory.Memory.{Memory}
use Rattle.model_types.specs.declared.memory.Pending.{Pending}
use Rattle.model_types.specs.declared.memory.Pending.TheVariants.{Nothing, Commit, Recovery}
use Rattle.model_types.specs.Answers.{answer, answer_number, answer_value}
use Rattle.model_types.specs.Errors.{code}
use Rattle.model.specs.Rules.First.{unless_refused}
use Rattle.model.specs.Rules.Commit.{commit_due}
use Rattle.model.specs.Rules.Calls.Open.{open_error, open_answer}
use Rattle.model.specs.Rules.Calls.Start.{start_answer}
use Rattle.model.specs.Rules.Calls.Allocate.{first_met, allocate_error, allocate_answer, allocate_list}
use Rattle.model.specs.Rules.Calls.AllocateExtent.{nearest_extent, allocate_extent_error, allocate_extent_answer, allocate_extent_list}
use Rattle.model.specs.Rules.Calls.Deallocate.{deallocate_answer}
use Rattle.model.specs.Rules.Calls.Precommit.{precommit_answer}
use Rattle.model.specs.Rules.Calls.Commit.{commit_answer}
use Rattle.model.specs.Rules.Calls.Drop.{drop_answer}
use Rattle.model.specs.Rules.Calls.Revoke.{revoke_answer}
use Rattle.model.specs.Rules.Calls.Store.{store_answer}
use Rattle.model.specs.Rules.Calls.Reserve.{reserve_answer}
use Rattle.model.specs.Rules.Outcome.{Call, Outcome, outcome, open_call, start_call, allocate_call, allocate_extent_call, deallocate_call, precommit_call, commit_call, drop_call, revoke_call, store_call, status_call, commit_cost_call, reserve_call, crash_call}
use Rattle.model.specs.Rules.Work.{Change, start_change, precommit_change, drop_change, revoke_change, grant_change, free_change, reserve_change, Work, open_work, crash_work, store_work, begin_work, change_work, worked, worked_disk, worked_all, works, works_in}
use Rattle.model.proofs.Laws.Memory.Numbers.{number_of, code-positive, answer-number}
use Rattle.model.proofs.Laws.Works.Progress.{either}
use Rattle.model.proofs.Laws.Memory.Granting.{Grants, allocate-grants, allocate-extent-grants}
use Rattle.model.proofs.Laws.Works.Work.{EachWork, each-fails, Fails, Made, SomeMade, does, calls-made}
use Rattle.crash_safety.specs.Ledger.{Event, Kind, Sets, no_sets, Ledger, sets_of, with_sets, frees, enter, entered, enter_all, takes, crash_event, opening, starting, allocating, deallocating, precommitting, committing, rolling, storing, asking, reserving}
use Rattle.crash_safety.specs.World.{World, world_of, event_of, events, step, run, Without}

-- ---- one event

-- what an event alters where its call is accepted
abbrev pub alters : Event → Ledger → Ledger
alters event ledger = entered event.kind event ledger

-- the ledger after a refused call, and after an accepted one
enter-refused : (event : Event) (ledger : Ledger) (error : Error) → event.answer ≡ code error → enter event ledger ≡ ledger
unfolding enter
enter-refused event ledger error e =
    ap (λ (t : Bool). cond t (alters event ledger) ledger) (ap (λ (n : ℕ). eqb n 0) e ∙ code-positive error)

enter-accepted : (event : Event) (ledger : Ledger) → event.answer ≡ 0 → enter event ledger ≡ alters event ledger
unfolding enter
enter-accepted event ledger e = ap (λ (n : ℕ). cond (eqb n 0) (alters event ledger) ledger) e

enter-crash : (ledger : Ledger) → enter crash_event ledger ≡ alters crash_event ledger
enter-crash ledger = enter-accepted crash_event ledger refl

-- a question alters nothing, refused or not
asked-nothing : (s : ℕ) (after : Outcome) (ledger : Ledger) → enter (event_of asking s 0 after) ledger ≡ ledger
unfolding enter entered
asked-nothing s after ledger = either (λ (l : Ledger). l ≡ ledger) (eqb after.number 0) refl refl

-- the numbers listed are the blocks granted
pub listed : (error : Option Error) (count : ℕ) (blocks list : List ℕ) → error ≡ none → length blocks ≡ count
    → take count (unless_refused error (blocks ++ drop count list) list) ≡ blocks
unfolding unless_refused
listed error count blocks list e size =
    ap (λ (x : Option Error). take count (unless_refused x (blocks ++ drop count list) list)) e
    ∙ take_at blocks (drop count list) count size

-- ---- the ledger, by works

-- an accepted call
abbrev entry : Kind → ℕ → ℕ → List ℕ → Event
entry kind s block listed = record { kind = kind; slot = s; block = block; answer = 0; value = 0; listed = listed }

abbrev pub change_entry : Change → ℕ → Event
change_entry start_change s = entry starting s 0 []
change_entry precommit_change s = entry precommitting s 0 []
change_entry drop_change s = entry rolling s 0 []
change_entry revoke_change s = entry rolling s 0 []
change_entry (grant_change blocks) s = entry allocating s 0 blocks
change_entry (free_change block) s = entry deallocating s block []
change_entry (reserve_change reservation) s = entry reserving s 0 []

-- only a commit begins
abbrev pub begin_entry : Pending → Event
begin_entry Nothing = entry asking 0 0 []
begin_entry (Commit s done due) = entry committing s 0 []
begin_entry (Recovery done due) = entry asking 0 0 []

unfoldable pub told : Work → Ledger → Ledger
told open_work ledger = alters (entry opening 0 0 []) (alters crash_event ledger)
told crash_work ledger = alters crash_event ledger
told store_work ledger = alters (entry storing 0 0 []) ledger
told (begin_work new) ledger = alters (begin_entry new) ledger
told (change_work s change) ledger = alters (change_entry change s) ledger

-- a change alters at most the sets of its slot
pub record OnlySets (ledger : Ledger) (s : ℕ) (after : Ledger) : Type 0 where
  pub allocated : after.allocated ≡ ledger.allocated
  pub counting : after.counting ≡ ledger.counting
  pub others : (t : ℕ) → (t ≡ s → ⊥) → sets_of after t ≡ sets_of ledger t

module _ (ledger : Ledger) (s : ℕ) where
  no-sets : OnlySets ledger s ledger
  no-sets = record { allocated = refl; counting = refl; others = λ t n. refl }

  own-sets : (sets : Sets) → OnlySets ledger s (with_sets ledger s sets)
  own-sets sets = record { allocated = refl; counting = refl; others = λ t n. get_or-set_other ledger.slots s t sets no_sets n }

  pub change-told : (change : Change) → OnlySets ledger s (alters (change_entry change s) ledger)
  unfolding entered takes frees
  change-told start_change = no-sets
  change-told precommit_change = no-sets
  change-told drop_change = own-sets _
  change-told revoke_change = own-sets _
  change-told (grant_change blocks) = own-sets _
  change-told (free_change block) = own-sets _
  change-told (reserve_change reservation) = no-sets

unfoldable pub told_all : List Work → Ledger → Ledger
told_all [] ledger = ledger
told_all (new ∷ rest) ledger = told_all rest (told new ledger)

module _ (ledger : Ledger) where
  unless : (error : Option Error) (event : Event) (new : Work) → event.answer ≡ number_of error
      → (error ≡ none → alters event ledger ≡ told new ledger)
      → enter event ledger ≡ told_all (unless_refused error (new ∷ []) []) ledger
  unfolding unless_refused told_all
  unless none event new e same = enter-accepted event ledger e ∙ same refl
  unless (some error) event new e same = enter-refused event ledger error e

  -- a call that grants blocks
  unless-granted : (memory : Memory) (s count : ℕ) (blocks list : List ℕ) (error : Option Error) → (error ≡ none → Grants memory s count blocks)
      → enter
      (record {
        kind = allocating;
        slot = s;
        block = 0;
        answer = answer_number (answer error (get_or blocks 0 0));
        value = answer_value (answer error (get_or blocks 0 0));
        listed = take count (unless_refused error (blocks ++ drop count list) list);
      })
      ledger
      ≡ told_all (unless_refused error (change_work s (grant_change blocks) ∷ []) []) ledger
  unfolding told entered
  unless-granted memory s count blocks list error grants =
      unless error _ (change_work s (grant_change blocks)) (answer-number error (get_or blocks 0 0))
      (λ e. ap (λ (blocks : List ℕ). takes ledger s blocks) (listed error count blocks list e (grants e).size))

  -- an open is a crash first
  unless-opened : (error : Option Error) (event : Event) → event.answer ≡ number_of error
      → alters event (alters crash_event ledger) ≡ told open_work ledger
      → enter event (alters crash_event ledger) ≡ told_all (unless_refused error (open_work ∷ []) (crash_work ∷ [])) ledger
  unfolding unless_refused told_all told
  unless-opened none event e same = enter-accepted event (alters crash_event ledger) e ∙ same
  unless-opened (some error) event e same = enter-refused event (alters crash_event ledger) error e

-- ---- calls in turn

-- what the ledger is fed of them
abbrev pub events_in : List Call → Memory → List ℕ → List Event
events_in [] memory disk = []
events_in (call ∷ calls) memory disk =
    events call (outcome call memory disk) ++ events_in calls (outcome call memory disk).memory (outcome call memory disk).disk

-- of a call that comes to its works,
abbrev pub Tells : Call → Memory → List ℕ → Type 0
Tells call memory disk = (ledger : Ledger) → enter_all (events call (outcome call memory disk)) ledger ≡ told_all (works call memory disk) ledger

-- and so of several: for a call made of them
abbrev pub TellInTurn : List Call → Memory → List ℕ → Type 0
TellInTurn [] memory disk = Unit {0}
TellInTurn (call ∷ calls) memory disk = Tells call memory disk × TellInTurn calls (outcome call memory disk).memory (outcome call memory disk).disk

enter-append : (before later : List Event) (ledger : Ledger) → enter_all (before ++ later) ledger ≡ enter_all later (enter_all before ledger)
unfolding enter_all
enter-append [] later ledger = refl
enter-append (event ∷ before) later ledger = enter-append before later (enter event ledger)

told-append : (before later : List Work) (ledger : Ledger) → told_all (before ++ later) ledger ≡ told_all later (told_all before ledger)
unfolding told_all
told-append [] later ledger = refl
told-append (new ∷ before) later ledger = told-append before later (told new ledger)

pub told-in-turn : (calls : List Call) (memory : Memory) (disk : List ℕ) → TellInTurn calls memory disk → (ledger : Ledger)
    → enter_all (events_in calls memory disk) ledger ≡ told_all (works_in calls memory disk) ledger
unfolding works_in enter_all told_all
told-in-turn [] memory disk turn ledger = refl
told-in-turn (call ∷ calls) memory disk (tells, later) ledger =
    let after : Outcome = outcome call memory disk in
    enter-append (events call after) (events_in calls after.memory after.disk) ledger
    ∙ told-in-turn calls after.memory after.disk later (enter_all (events call after) ledger)
    ∙ ap (told_all (works_in calls after.memory after.disk)) (tells ledger)
    ∙ sym (told-append (works call memory disk) (works_in calls after.memory after.disk) ledger)

-- ---- each call

ledger-told : (call : Call) (memory : Memory) (disk : List ℕ) → Tells call memory disk
unfolding works told told_all events enter_all entered outcome open_answer start_answer allocate_answer allocate_list allocate_extent_answer allocate_extent_list deallocate_answer precommit_answer commit_answer drop_answer revoke_answer store_answer reserve_answer
ledger-told open_call memory disk ledger =
    ap (enter (event_of opening 0 0 (outcome open_call memory disk))) (enter-crash ledger)
    ∙ unless-opened ledger (open_error disk) (event_of opening 0 0 (outcome open_call memory disk)) (answer-number _ _) refl
ledger-told (start_call s) memory disk ledger = unless ledger _ _ (change_work s start_change) (answer-number _ _) (λ _. refl)
ledger-told (allocate_call s count list) memory disk ledger =
    unless-granted ledger memory s count (first_met memory count) list (allocate_error memory s count list) (allocate-grants memory s count list)
ledger-told (allocate_extent_call s count near list) memory disk ledger =
    unless-granted ledger memory s count (nearest_extent memory count near) list (allocate_extent_error memory s count near list)
    (allocate-extent-grants memory s count near list)
ledger-told (deallocate_call s block) memory disk ledger = unless ledger _ _ (change_work s (free_change block)) (answer-number _ _) (λ _. refl)
ledger-told (precommit_call s) memory disk ledger = unless ledger _ _ (change_work s precommit_change) (answer-number _ _) (λ _. refl)
ledger-told (commit_call s) memory disk ledger = unless ledger _ _ (begin_work (Commit s 0 (commit_due memory s))) (answer-number _ _) (λ _. refl)
ledger-told (drop_call s) memory disk ledger = unless ledger _ _ (change_work s drop_change) (answer-number _ _) (λ _. refl)
ledger-told (revoke_call s) memory disk ledger = unless ledger _ _ (change_work s revoke_change) (answer-number _ _) (λ _. refl)
ledger-told store_call memory disk ledger = unless ledger _ _ store_work (answer-number _ _) (λ _. refl)
ledger-told status_call memory disk ledger = asked-nothing 0 (outcome status_call memory disk) ledger
ledger-told (commit_cost_call s count) memory disk ledger = asked-nothing s (outcome (commit_cost_call s count) memory disk) ledger
ledger-told (reserve_call s reservation) memory disk ledger = unless ledger _ _ (change_work s (reserve_change reservation)) (answer-number _ _) (λ _. refl)
ledger-told crash_call memory disk ledger = enter-crash ledger

-- ---- the world, by works

-- the world after a work
abbrev pub after : Work → World → World
after new w = world_of (worked new w.memory w.disk) (worked_disk new w.memory w.disk) (told new w.ledger)

unfoldable pub after_all : List Work → World → World
after_all [] w = w
after_all (new ∷ rest) w = after_all rest (after new w)

after-append : (all more : List Work) (w : World) → after_all (all ++ more) w ≡ after_all more (after_all all w)
unfolding after_all
after-append [] more w = refl
after-append (new ∷ rest) more w = after-append rest more (after new w)

-- its three parts
after-parts : (all : List Work) (w : World)
    → after_all all w ≡ world_of (worked_all all w.memory w.disk).memory (worked_all all w.memory w.disk).disk (told_all all w.ledger)
unfolding after_all worked_all told_all
after-parts [] w = refl
after-parts (new ∷ rest) w = after-parts rest (after new w)

-- a call's works lead to the world after it,
step-worked : (call : Call) (w : World) → step call w ≡ after_all (works call w.memory w.disk) w
unfolding step
step-worked call w =
    let d = does call w.memory w.disk in
    let all : List Work = works call w.memory w.disk in
    ap₂ (λ (m : Memory) (disk : List ℕ). world_of m disk (enter_all (events call (outcome call w.memory w.disk)) w.ledger)) d.leaves d.writes
    ∙ ap (world_of (worked_all all w.memory w.disk).memory (worked_all all w.memory w.disk).disk) (ledger-told call w.memory w.disk w.ledger)
    ∙ sym (after-parts all w)

-- and those of a list of calls to the one after all of them
abbrev pub works_of : List Call → World → List Work
works_of calls w = works_in calls w.memory w.disk

pub run-worked : (calls : List Call) (w : World) → run calls w ≡ after_all (works_of calls w) w
unfolding run works_in step after_all
run-worked [] w = refl
run-worked (call ∷ calls) w =
    run-worked calls (step call w)
    ∙ ap (after_all (works_of calls (step call w))) (step-worked call w)
    ∙ sym (after-append (works call w.memory w.disk) (works_of calls (step call w)) w)

-- ---- what works keep

-- of works one after the other
walk : (P : World → Type 0) (Is : Work → Memory → List ℕ → Type 0) → ((v : World) (new : Work) → Is new v.memory v.disk → P v → P (after new v))
    → (all : List Work) (w : World) → EachWork Is all w.memory w.disk → P w → P (after_all all w)
unfolding after_all
walk P Is one [] w each p = p
walk P Is one (new ∷ rest) w (here, later) p = walk P Is one rest (after new w) later (one w new here p)

-- what every work of a call keeps the call keeps
pub by_call : (P : World → Type 0) (call : Call) → ((v : World) (new : Work) → Made call new v.memory v.disk → P v → P (after new v))
    → (w : World) → P w → P (step call w)
by_call P call one w p =
    subst P (sym (step-worked call w)) (walk P (Made call) one (works call w.memory w.disk) w (does call w.memory w.disk).made p)

-- what every work keeps every list of calls keeps
pub by-works : (P : World → Type 0) → ((v : World) (call : Call) (new : Work) → Made call new v.memory v.disk → P v → P (after new v))
    → (calls : List Call) (w : World) → P w → P (run calls w)
by-works P one calls w p =
    subst P (sym (run-worked calls w)) (walk P SomeMade (λ v new made. one v made.0 new made.1) (works_of calls w) w (calls-made calls w.memory w.disk) p)

-- and what every work keeps that fails a test, every list of calls without works that pass it
pub by-failing : (P : World → Type 0) (test : Work → Pending → Bool)
    → ((v : World) (call : Call) (new : Work) → Made call new v.memory v.disk → Fails test new v.memory → P v → P (after new v))
    → (calls : List Call) (w : World) → Without test calls w → P w → P (run calls w)
by-failing P test one calls w without p =
    subst P (sym (run-worked calls w))
    (walk P _ (λ v new made. one v made.0.0 new made.0.1 made.1) (works_of calls w) w
    (each-fails SomeMade test (works_of calls w) w.memory w.disk (calls-made calls w.memory w.disk) without) p)
