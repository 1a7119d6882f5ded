-- The machine value of a mark: what is owned says it, and is made of nothing.
use Rattle.std.proofs.Common.{◌≡◌, ℕ, ◌^◌, ◌<◌, List, [], ◌∷◌, ◌++◌, refl, ◌∙◌, w64}
use seplogic.Ra.Ura.{Ura}
use mir.Syntax.{Ty, ty_int, ty_struct, tcons, tnil}
use mir.Val.{Val, vint, vstruct, vcons, vnil, of_list, has_ty, WT}
use base.Logic.{ent, emp}
use base.Fml.{Fml}
use types.Logic.{Logic, sem}
use denote.RattleType.{RattleType}
use denote.Builtin.{usize}
use denote.Shadow.{shadow, makes_shadow}
use denote.Struct.Struct.{Struct}
use lib.Dec.{T}

-- a struct by its fields alone: what it owns does not read its name
abbrev plainly : List RattleType → RattleType
plainly Rs = Struct (record { name = []; args = []; types = []; fields = Rs })

abbrev pub mark_type : Ty
mark_type = ty_struct [] (tcons (ty_int w64) (tcons (ty_struct [] tnil) tnil))

abbrev pub mark_val : ℕ → Val
mark_val n = vstruct (vcons (vint w64 n) (vcons (vstruct vnil) vnil))

abbrev pub mark_own : ℕ → List Val → Fml
mark_own n = (plainly (usize ∷ plainly [] ∷ [])).own_val (n, (tt, tt))

pub mark_shown : (n : ℕ) (vs : List Val) → shadow (mark_own n vs)
    → (vs ≡ mark_val n ∷ []) × (n < 2 ^ 64)
mark_shown n vs s = (s.1.0 ∙ (λ i. vstruct (of_list (s.1.1.0.0 i ++ (s.1.1.1.0.1.0 i ++ []))) ∷ []), s.1.1.0.1)

pub mark_made : {M : Type 1} {𝓤 : Ura M} (𝓛 : Logic 𝓤) (n : ℕ) → (n < 2 ^ 64)
    → ent 𝓤 (emp 𝓤) (sem 𝓛 (mark_own n (mark_val n ∷ [])))
mark_made 𝓛 n f = makes_shadow 𝓛 (mark_own n (mark_val n ∷ []))
    (λ _. (tt, ((tt, tt), ((λ _. (tt, tt)), tt)))) (
      (vint w64 n ∷ [], (vstruct vnil ∷ [], tt)),
      (refl, ((refl, f), ((tt, (refl, tt)), tt))),
    )

pub mark_typed : (n : ℕ) → (n < 2 ^ 64) → T (has_ty mark_type (mark_val n)) × WT (mark_val n)
mark_typed n f = (tt, (record { fits = f }, (tt, tt)))
