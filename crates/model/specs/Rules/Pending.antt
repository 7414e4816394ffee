-- Pending work by its parts, one line a kind: its stores done and due, one more done, and what its last store finishes; and how it begins.
use Rattle.std.specs.Prelude.{ℕ, zero, suc, ◌+◌, ◌-◌, Bool, false, cond, List, eqb}
use Rattle.model.specs.Types.{Pending, Nothing, Commit, Recovery, Memory}
use Rattle.model_types.specs.Memory.{with_pending}
use Rattle.model.specs.Rules.Commit.{committed_sam, committed}

-- the stores done so far
unfoldable pub stores_done : Pending → ℕ
stores_done Nothing = 0
stores_done (Commit s done due) = done
stores_done (Recovery done due) = done

-- all stores of the work
unfoldable pub stores_due : Pending → ℕ
stores_due Nothing = 0
stores_due (Commit s done due) = due
stores_due (Recovery done due) = due

-- the work with one more store done
unfoldable pub one_more_done : Pending → Pending
one_more_done Nothing = Nothing
one_more_done (Commit s done due) = Commit s (done + 1) due
one_more_done (Recovery done due) = Recovery (done + 1) due

-- and with n more
unfoldable pub more_done : ℕ → Pending → Pending
more_done zero pending = pending
more_done (suc n) pending = more_done n (one_more_done pending)

-- the memory after the last store: a commit changes the bitmaps, a recovery has none to change
unfoldable pub finished : Memory → Pending → Memory
finished memory Nothing = memory
finished memory (Commit s done due) = committed memory s
finished memory (Recovery done due) = with_pending memory Nothing

-- the memory with new work begun: it is pending, or ended at once where it has no stores
unfoldable pub begun : Memory → Pending → Memory
begun memory new = cond (eqb (stores_due new) 0) (finished memory new) (with_pending memory new)

-- the words of the SAM that the work makes: a commit's new one, else SAM as it is
unfoldable pub new_sam : Memory → Pending → List ℕ
new_sam memory Nothing = memory.sam.words
new_sam memory (Commit s done due) = (committed_sam memory s).words
new_sam memory (Recovery done due) = memory.sam.words

-- the stores not yet done
unfoldable pub stores_left : Pending → ℕ
stores_left pending = stores_due pending - stores_done pending

-- whether it is the commit of slot s
abbrev pub is_commit_of : ℕ → Pending → Bool
is_commit_of s Nothing = false
is_commit_of s (Commit t done due) = eqb t s
is_commit_of s (Recovery done due) = false
