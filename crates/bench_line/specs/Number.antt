-- A number at the front of some bytes.
use Rattle.std.specs.Prelude.{ℕ, ◌≡◌, true, List}
use Rattle.model.specs.Rules.Line.{digits, digits_in_form}

-- the digits at the front are in form, with this value, and followed by the rest
pub record NumberRead (bytes : List ℕ) (value : ℕ) (rest : List ℕ) : Type 0 where
  pub in_form : digits_in_form (digits 0 0 bytes) ≡ true
  pub value_is : (digits 0 0 bytes).value ≡ value
  pub rest_is : (digits 0 0 bytes).rest ≡ rest
