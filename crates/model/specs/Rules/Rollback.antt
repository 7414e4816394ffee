-- What a rollback leaves: one definition for drop and revoke. "COM becomes the majority of COM, SAM and the complement of TAM.
-- That is table 2 ... Then the seat is idle." Document 02, job 7: it "puts back what that transaction used of" its claim.
use Rattle.std.specs.Prelude.{ℕ, not}
use Rattle.bitmap.specs.Majority.{majority}
use Rattle.model.specs.Types.{Bitmap, Memory}
use Rattle.model.specs.Rules.Reserves.{put_back}
use Rattle.model_types.specs.Memory.{with_com, with_slot, with_reserve, idle_slot, slot_at, reserve_at, sam_bit, com_bit, tam_bit, volume_bitmap}

unfoldable pub rolled_back_com : Memory → ℕ → Bitmap
rolled_back_com memory s = volume_bitmap memory (λ b. majority (com_bit memory b) (sam_bit memory b) (not (tam_bit (slot_at memory s) b)))

unfoldable pub rolled_back : Memory → ℕ → Memory
rolled_back memory s = with_reserve (with_slot (with_com memory (rolled_back_com memory s)) s idle_slot) s (put_back (reserve_at memory s))
