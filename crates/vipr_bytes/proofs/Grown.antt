-- A text that grows in memory
use Rattle.std.proofs.Common.{arith, ◌≡◌, ℕ, false, List, ◌++◌, [], Result, IfOk, sym}
use Rattle.std.proofs.lemmas.List.{append-nil}
use Rattle.vipr_bytes.specs.{Grown.GrowsBy, Puts.Puts, declared.growing.Growing.Growing}

-- unless a growth was refused, it grew by what was put
pub grown : (old new : Growing) (bytes : List ℕ) → Puts GrowsBy old new bytes → new.failed ≡ false
    → (old.failed ≡ false) × (new.bytes.items ≡ old.bytes.items ++ bytes)
grown old new bytes p whole = p.law old [] (λ w. (w, sym (append-nil old.bytes.items))) whole

-- an empty text that grew is what was put
pub grown_whole : {V E : Type 0} (items : V → List ℕ) (old new : Growing) (bytes : List ℕ)
    (r : Result V E) → Puts GrowsBy old new bytes → old.bytes.items ≡ []
    → IfOk r (λ v. (new.failed ≡ false) × (items v ≡ new.bytes.items))
    → IfOk r (λ v. items v ≡ bytes)
grown_whole items old new bytes r p none is = grind (arith, grown)
