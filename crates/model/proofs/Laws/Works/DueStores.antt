-- The stores of pending work are as many as are due.
use Prim.Native.Nat.{ℕ, ◌+◌, ◌≤◌}
use native.Mathlib.Omega.{arith}
use mathlib.Core.Path.{◌≡◌, sym, ap, ◌∙◌}
use mathlib.Core.Bool.{true}
use mathlib.Core.List.{List}
use lib.ListN.{length}
use Rattle.bitmap.specs.Sizes.{max_blocks}
use Rattle.model.specs.Types.{Pending, Nothing, Commit, Recovery, Memory}
use Rattle.model.specs.Rules.Sizes.{disk_words}
use Rattle.model.specs.Rules.Stores.{closing_stores, checkpoint_stores}
use Rattle.model.specs.Rules.Commit.{entries_of, changed_of}
use Rattle.model.specs.Rules.Pending.{stores_due}
use Rattle.model.specs.Rules.Valid.{pending_valid, valid}
use Rattle.model.specs.Rules.Disk.{log_entries, due_stores, disk_matches}
use Rattle.model.proofs.Laws.Disk.StoreLists.{length-checkpoint_with, length-commit_stores}
use Rattle.model.proofs.Laws.Disk.Parts.{valid-log-length, entries-count}
use Rattle.model.proofs.Laws.Disk.Matching.{rest-stores, commit-stores, recovery-stores, recovery-matches, matching-parts}
use Rattle.model.proofs.Laws.Memory.Valid.{valid-parts}
use Rattle.model.proofs.Laws.Works.Pending.{commit-parts}

by_kind : (memory : Memory) (disk : List ℕ) (pending : Pending) → memory.blocks ≤ max_blocks → length disk ≡ disk_words
    → pending_valid memory pending ≡ true
    → disk_matches memory disk pending ≡ true
    → length (due_stores memory disk pending) ≡ stores_due pending
unfolding stores_due changed_of checkpoint_stores
by_kind memory disk Nothing few size v m = ap length (rest-stores memory disk)
by_kind memory disk (Commit s done due) few size v m =
    ap length (commit-stores memory disk s done due)
    ∙ length-commit_stores (entries_of memory s)
    ∙ sym (commit-parts memory s done due v).due_is
by_kind memory disk (Recovery done due) few size v m =
    let parts = matching-parts memory.blocks memory.sam.words disk done due (sym (recovery-matches memory disk done due) ∙ m) in
    ap length (recovery-stores memory disk done due)
    ∙ length-checkpoint_with closing_stores (log_entries disk)
    ∙ ap (λ (n : ℕ). n + 1) (entries-count disk size (omega (arith, valid-log-length disk parts.log, parts.blocks_is)))
    ∙ parts.due_is

pub due-length : (memory : Memory) (disk : List ℕ) → valid memory ≡ true → length disk ≡ disk_words
    → disk_matches memory disk memory.pending ≡ true
    → length (due_stores memory disk memory.pending) ≡ stores_due memory.pending
due-length memory disk v size m =
    let parts = valid-parts memory v in
    by_kind memory disk memory.pending parts.few_blocks size parts.pending_fits m
