-- A logged word, or word 1 after the last of them.
use Prim.Native.Nat.{◌≤◌}
use mathlib.Core.List.{[]}
use native.Mathlib.Omega.{arith}
use lib.ListN.{length}
use Rattle.disk_log.proofs.Laws.Given.{logged-few}
use Rattle.next_store.proofs.Laws.NextStore.{recovery-word, recovery-last}
use Rattle.next_store.proofs.next.recovery_next.Goals as goal

pub entries-requires : goal.entries-requires
entries-requires c = record { few = logged-few c.args.disk.now c.requires.logged }

pub returns-in-Some : goal.returns-in-Some
returns-in-Some c =
    let (there, is) = c.in-Some.ensures.lookup.3 in
    rw (is []) (recovery-word c.args.disk.now c.requires.logged (omega arith) c.entries.result.now c.entries.ensures c.args.done there)

pub returns-in-None : goal.returns-in-None
returns-in-None c =
    let last : length c.entries.result.now ≤ c.args.done = c.in-None.ensures.lookup.3 in
    recovery-last c.args.disk.now c.requires.logged (omega arith) c.entries.result.now c.entries.ensures c.args.done c.requires.done_bound last
