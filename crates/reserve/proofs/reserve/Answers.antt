-- The causes of an idle slot and of the sum decide; accepted, the slot's reserve is the definition's.
use native.Mathlib.Omega.{arith}
use Prim.Native.Nat.{ℕ}
use mathlib.Core.Path.{sym, ap, ◌∙◌}
use lib.ListN.{get_or}
use Rattle.model_types.specs.Memory.{no_reserve, reserve_of, with_reserve}
use Rattle.model.specs.Rules.CauseLists.{idle_causes, of_slot}
use Rattle.model.specs.Rules.Reserves.{reserving}
use Rattle.model.specs.Rules.Calls.Start.{start_error}
use Rattle.model.specs.Rules.Calls.Reserve.{reserve_error, reserve_answer, reserve_memory}
use Rattle.model.proofs.Laws.Calls.Accepted.{start-accepted}
use Rattle.model.proofs.Laws.Calls.Answered.{told-done}
use Rattle.model.proofs.Laws.Calls.Turns.{refused-before}
use Rattle.verdicts.proofs.Laws.Ready.{handed-on, pass, leaves-new, leaves-old}
use Rattle.causes.proofs.Laws.Available.{can-count}
use Rattle.reserve.proofs.Laws.Reserve.{kept-small, room-decides}
use Rattle.reserve.proofs.reserve.Goals as goal

pub returns-in_err-ready : goal.returns-in_err-ready
unfolding start_error reserve_error reserve_answer reserve_memory
returns-in_err-ready c =
    let refused = refused-before tt _ (of_slot idle_causes c.args.memory.now c.args.slot) _ _ (sym c.in_err-ready.ensures.answers) in
    record {
      answers = handed-on c.from_residual.ensures.1 ∙ refused;
      leaves = leaves-old _ _ _ _ _ refused;
    }

pub available_now-available-requires : goal.available_now-available-requires
available_now-available-requires c =
    let told = pass c.in_ok-ready.ensures.answers in
    can-count c.args.memory.now told.counted-is (start-accepted _ _ told.none-found).ready.is_valid

pub room_causes-requires : goal.room_causes-requires
room_causes-requires c =
    let told = pass c.in_ok-ready.ensures.answers in
    omega (arith, c.others-kept.ensures, kept-small c.args.memory.now c.in_ok-ready.ready.at (start-accepted _ _ told.none-found).ready.is_valid)

pub returns-in_err-room_causes : goal.returns-in_err-room_causes
unfolding reserve_answer reserve_memory
returns-in_err-room_causes c =
    let told = pass c.in_ok-ready.ensures.answers in
    let refused =
    room-decides _ _ c.args.reservation told c.in_ok-ready.ensures.shape c.available_now-available.ensures c.others-kept.ensures c.in_err-room_causes.ensures in
    record {
      answers = handed-on c.from_residual-in_err-room_causes.ensures.1 ∙ refused;
      leaves = leaves-old _ _ _ _ _ refused;
    }

pub returns : goal.returns
unfolding reserve_answer reserve_memory reserving
returns c =
    let memory = c.args.memory.now in
    let reservation = c.args.reservation in
    let told = pass c.in_ok-ready.ensures.answers in
    let accepted =
    room-decides _ _ reservation told c.in_ok-ready.ensures.shape c.available_now-available.ensures c.others-kept.ensures c.in_ok-room_causes.ensures in
    record {
      answers = accepted;
      leaves =
          ap (λ (s : ℕ). with_reserve memory s (reserve_of reservation (get_or memory.reserves s no_reserve).drawn)) told.at-is
          ∙ leaves-new _ _ (told-done _ (sym accepted));
    }
