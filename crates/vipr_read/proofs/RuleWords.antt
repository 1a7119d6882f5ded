-- The words of rules are runs
use Rattle.std.proofs.Common.{◌≡◌, ℕ, List, [], ◌∷◌, true, false, arith}
use Rattle.std.specs.Str.{bytes_eq}
use Rattle.std.proofs.lemmas.Slice.Eq.{bytes_eq-Decides}
use Rattle.vipr_spec.specs.Tokens.{is_white, IsRun}

-- bytes that are three given ones, none of which is white space
pub run_of_three : (w : List ℕ) (a b c : ℕ) → bytes_eq w (a ∷ b ∷ c ∷ []) ≡ true
    → is_white a ≡ false → is_white b ≡ false → is_white c ≡ false → IsRun w
run_of_three w a b c e p q r = grind (arith, bytes_eq-Decides)
