-- The fields of a line by the number that stands in each.
use Rattle.std.proofs.Common.{ℕ, ◌≡◌, ap, ◌∙◌, false, cond, List, length, take, drop, eqb, true}
use Rattle.std.specs.Prelude.{None, Some}
use Rattle.std.specs.Cmp.Lexicographic.{pointwise}
use borrow.Author.Tests.{eq-eqb, ne_eqb}
use Rattle.model_types.specs.declared.line.Op.{Op}
use Rattle.bench_line.proofs.Laws.Prefix.{found, missing}
use Rattle.model.specs.Rules.Line.{count_field, after_prefix, digits, digits_in_form, number_field, slot_number}
use Rattle.bench_line.specs.Number.{NumberRead}

-- no number
module _ (op : Op) (bytes : List ℕ) (e : digits_in_form (digits 0 0 bytes) ≡ false) where
  pub no_slot : slot_number op (Some bytes) ≡ None
  unfolding slot_number
  no_slot = rw e

  pub no-n : (slot : ℕ) → number_field op slot (Some bytes) ≡ None
  unfolding number_field
  no-n slot = rw e

module _ (op : Op) {bytes : List ℕ} {value : ℕ} {rest : List ℕ} (read : NumberRead bytes value rest) where
  -- the slot, and what follows it
  slot_read : slot_number op (Some bytes) ≡ number_field op value (after_prefix count_field rest)
  unfolding slot_number
  slot_read = rw (read.in_form, read.value_is, read.rest_is)

  pub slot-found : pointwise eqb (take (length count_field) rest) count_field ≡ true
      → slot_number op (Some bytes) ≡ number_field op value (Some (drop (length count_field) rest))
  slot-found e = slot_read ∙ ap (number_field op value) (found count_field rest e)

  pub slot-missing : pointwise eqb (take (length count_field) rest) count_field ≡ false → slot_number op (Some bytes) ≡ None
  unfolding number_field
  slot-missing e = slot_read ∙ ap (number_field op value) (missing count_field rest e)

  module _ (slot : ℕ) where
    -- n, and the line's end
    n-read : number_field op slot (Some bytes) ≡ cond (eqb (length rest) 0) (Some (record { op = op; slot = slot; n = value })) None
    unfolding number_field
    n-read = rw (read.in_form, read.value_is, read.rest_is)

    pub n-last : length rest ≡ 0 → number_field op slot (Some bytes) ≡ Some (record { op = op; slot = slot; n = value })
    n-last e = n-read ∙ rw (eq-eqb (length rest) 0 e)

    pub n-not-last : (length rest ≡ 0 → ⊥) → number_field op slot (Some bytes) ≡ None
    n-not-last ne = n-read ∙ rw (ne_eqb (length rest) 0 ne)

pub ruleset n_laws = (no-n, n-last, n-not-last)

pub ruleset slot_laws = (no_slot, slot-found, slot-missing)
