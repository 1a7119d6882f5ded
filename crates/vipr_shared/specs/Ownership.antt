-- What is owned behind a `&` to a mark: its word, which is 0 between any two calls.
-- Each mark that is shared gets a name. It says the value that the mark is for, and its place, for
-- good: so marks of one name have one value.
use Rattle.std.specs.Prelude.{◌≡◌, ℕ, List}
use Rattle.std.specs.Coded.{Coded, coded×, coded_ℕ}
use mir.Val.{Val}
use base.Stored.{Gv}
use base.Fraction.{full_share}
use base.Fml.{Lft, GName, Fml, ffalse, ftrue, fsep, fex, fauth, fres}
use denote.RattleType.{RattleType}
use denote.Memory.{cell_at}
use denote.RawPtr.{Ptr, block_ptr, null_ptr}
use denote.Sharing.{said, beside, some}
use denote.Hidden.{guarded, kept}

-- the word is 0
abbrev pub is_zero : ℕ → Fml
is_zero n = fex (n ≡ 0) (λ _. ftrue)

-- the value x, and the place
abbrev pub named : {X : Type 0} → Coded X → X → ℕ → ℕ → Gv
named c x b o = (coded× c (coded× coded_ℕ coded_ℕ)).code (x, (b, o))

module _ (F : RattleType) (I : F.Denot → Fml) where
  -- fields of which I holds, in memory
  abbrev pub fields_with : ℕ → ℕ → Fml
  fields_with b o = fex (List Val) (λ vs.
      fsep (cell_at full_share F.mir vs b o) (fex F.Denot (λ i. fsep (F.own_val i vs) (I i))))

  -- the name γ says g for good, and opens the fields
  abbrev pub under : Gv → ℕ → ℕ → GName → Lft → Fml
  under g b o γ =
      beside (said (fres γ g))
      (beside (kept (γ, 1) (fauth γ g)) (guarded (γ, 0) (fields_with b o)))

  module _ {X : Type 0} (c : Coded X) (x : X) where
    -- they are reached with the thread's token, and I holds again afterwards
    abbrev pub behind_a_ref : Ptr → Lft → Fml
    behind_a_ref (block_ptr b o) = some GName (under (named c x b o) b o)
    behind_a_ref null_ptr = said ffalse
