-- The ops of a line: one of them, and those whose words begin with one letter.
use Rattle.std.proofs.Common.{ℕ, ◌≡◌, refl, sym, ap, ◌∙◌, Bool, true, false, cond, List, [], ◌∷◌, ◌++◌, length, get_or, eqb, arith, rules}
use Rattle.std.specs.Prelude.{Option, None, Some, slice_get}
use borrow.Author.Tests.{ne_eqb}
use Rattle.model_types.specs.declared.line.Op.{Op}
use Rattle.model_types.specs.declared.line.Line.{Line}
use Rattle.bench_line.proofs.Laws.Prefix.{found, missing}
use Rattle.model.specs.Rules.Line.{ops, op_word, slot_field, after_prefix, parse_op, slot_number}
use Rattle.bench_line.specs.Ops.{op_else}

-- an op by what follows its word and " seat="
module _ (op : Op) (word bytes : List ℕ) (other : Option Line) (is : word ≡ op_word op ++ slot_field) where
  op-is : op_else op bytes other ≡ elim (after_prefix word bytes) [ None ↦ other | Some rest ↦ slot_number op (Some rest) ]
  unfolding op_else
  op-is = ap (λ (w : List ℕ). elim (after_prefix w bytes) [ None ↦ other | Some rest ↦ slot_number op (Some rest) ]) (sym is)

  pub op-missing : after_prefix word bytes ≡ None → op_else op bytes other ≡ other
  op-missing e = op-is ∙ ap (λ (found : Option (List ℕ)). elim found [ None ↦ other | Some rest ↦ slot_number op (Some rest) ]) e

  pub op-found : (rest : List ℕ) → after_prefix word bytes ≡ Some rest → op_else op bytes other ≡ slot_number op (Some rest)
  op-found rest e = op-is ∙ ap (λ (found : Option (List ℕ)). elim found [ None ↦ other | Some after ↦ slot_number op (Some after) ]) e

-- the first letter of an op's word
abbrev letter : Op → ℕ
letter op = get_or (op_word op) 0 0

-- a word that begins with another letter
other-letter : (op : Op) (b : ℕ) (rest : List ℕ) → eqb (letter op) b ≡ false → after_prefix (op_word op ++ slot_field) (b ∷ rest) ≡ None
unfolding after_prefix
other-letter Op.Format b rest e = rw e
other-letter Op.Open b rest e = rw e
other-letter Op.Start b rest e = rw e
other-letter Op.Allocate b rest e = rw e
other-letter Op.Deallocate b rest e = rw e
other-letter Op.Precommit b rest e = rw e
other-letter Op.Commit b rest e = rw e
other-letter Op.Drop b rest e = rw e
other-letter Op.Revoke b rest e = rw e
other-letter Op.Store b rest e = rw e
other-letter Op.Status b rest e = rw e
other-letter Op.Crash b rest e = rw e

-- the ops of a list whose words begin with a letter
abbrev pub ops_with : ℕ → List Op → List Op
ops_with b [] = []
ops_with b (op ∷ later) = cond (eqb (letter op) b) (op ∷ ops_with b later) (ops_with b later)

-- no other op is found
parse-with : (list : List Op) (b : ℕ) (rest : List ℕ) → parse_op list (b ∷ rest) ≡ parse_op (ops_with b list) (b ∷ rest)
unfolding parse_op op_else
parse-with [] b rest = refl
parse-with (op ∷ later) b rest = go (eqb (letter op) b) refl (parse-with later b rest)
  where
    go : (same : Bool) → eqb (letter op) b ≡ same → parse_op later (b ∷ rest) ≡ parse_op (ops_with b later) (b ∷ rest)
        → parse_op (op ∷ later) (b ∷ rest) ≡ parse_op (cond same (op ∷ ops_with b later) (ops_with b later)) (b ∷ rest)
    go true e ih = ap (op_else op (b ∷ rest)) ih
    go false e ih = op-missing op (op_word op ++ slot_field) (b ∷ rest) (parse_op later (b ∷ rest)) refl (other-letter op b rest e) ∙ ih

-- "op=" and nothing after it
pub at-end : (bytes : List ℕ) → length bytes ≡ 0 → parse_op ops bytes ≡ None
unfolding ops parse_op after_prefix
at-end [] h = refl
at-end (b ∷ bytes) h = absurd (omega (arith, h))

-- "op=" and a letter
pub at-letter : (bytes : List ℕ) (first b : ℕ) → Some first ≡ slice_get bytes 0 → first ≡ b → parse_op ops bytes ≡ parse_op (ops_with b ops) bytes
at-letter [] first b is e = absurd (search (rules, is))
at-letter (x ∷ bytes) first b is e =
    let same : x ≡ b = grind (arith, is, e) in
    rw (← same) (parse-with ops x bytes)

-- no op begins with another letter
pub no-ops : (b : ℕ)
    → (b ≡ 97 → ⊥)
    → (b ≡ 99 → ⊥)
    → (b ≡ 100 → ⊥)
    → (b ≡ 102 → ⊥)
    → (b ≡ 111 → ⊥)
    → (b ≡ 112 → ⊥)
    → (b ≡ 114 → ⊥)
    → (b ≡ 115 → ⊥)
    → ops_with b ops ≡ []
unfolding ops
no-ops b a c d f o p r s = rw (is-not 102 f, is-not 111 o, is-not 115 s, is-not 97 a, is-not 112 p, is-not 99 c, is-not 100 d, is-not 114 r)
  where
    is-not : (k : ℕ) → (b ≡ k → ⊥) → eqb k b ≡ false
    is-not k ne = ne_eqb k b (λ e. ne (sym e))

pub ruleset word_laws = (op-missing, op-found, found, missing)

pub ruleset letter_laws = (at-end, no-ops)
