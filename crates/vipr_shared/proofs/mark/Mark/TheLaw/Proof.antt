-- A `&` to a mark is made of a borrow of it, with a new name. Assumes `Logic`.
use mathlib.Core.List.{[], ◌∷◌}
use base.Logic.{snd∗}
use base.Stored.{Gv}
use base.Before.{before}
use base.Fraction.{full_share}
use base.Fml.{GName, Fml, fsep, fauth, fres, fbor}
use types.Logic.{sem, lfts}
use types.Kit.{‵, raw, later, ◌$◌, ◌∵◌, !, qed, move, use1, await, updating, now, fjoin, fpack}
use types.Kit.{done}
use types.Tokens.{name_new, name_done}
use types.Na.{na_inv, na_inv_new, na_bor, bor_na}
use denote.RattleType.{RattleType}
use denote.Memory.{part_at, part_of}
use denote.Hidden.{kept, guarded, kept_shr_laws, guarded_shr_laws}
use denote.Param.Laws.{Laws}
use denote.Sharing.{ShrLaws, said, beside}
use denote.SharingLaws.{some_shr_laws, beside_shr_laws}
use Rattle.vipr_shared.specs.Ownership.{named}
use Rattle.vipr_shared.specs.contracts.mark.Mark as C
use Rattle.vipr_shared.proofs.mark.Mark.TheLaw.Statement.{statement}

res_laws : (γ : GName) (g : Gv) → ShrLaws (said (fres γ g))
res_laws γ g = record {
  contraction = λ M 𝓤 𝓛 κ. 𝓛.names.res_dup γ g;
  mono = λ M 𝓤 𝓛 κ' κ. snd∗ 𝓤 (sem 𝓛 (before κ' κ)) (sem 𝓛 (fres γ g));
}

named_laws : (g : Gv) (P : Fml) (γ : GName)
    → ShrLaws (beside (said (fres γ g)) (beside (kept (γ, 1) (fauth γ g)) (guarded (γ, 0) P)))
named_laws g P γ =
    beside_shr_laws (said (fres γ g)) (beside (kept (γ, 1) (fauth γ g)) (guarded (γ, 0) P)) (res_laws γ g)
    (beside_shr_laws (kept (γ, 1) (fauth γ g)) (guarded (γ, 0) P) (kept_shr_laws (γ, 1) (fauth γ g))
    (guarded_shr_laws (γ, 0) P))

pub shares : (T : RattleType) (L : Laws T) → statement T L
unfolding part_of
shares T L = record {
  shr_laws = λ d b o. let P = part_at (C.the_written T) full_share d b o in let g = named T.coded d b o in
      some_shr_laws GName
      (λ γ. beside (said (fres γ g)) (beside (kept (γ, 1) (fauth γ g)) (guarded (γ, 0) P)))
      (named_laws g P);
  shares = λ M 𝓤 𝓛 d κ ts b o inc sp.
      let P = part_at (C.the_written T) full_share d b o in let g = named T.coded d b o in
      qed 𝓛 (‵ (fbor κ P) ∷ raw (lfts 𝓛 ts) ∷ []) ∵ updating ! $ name_new ! tt g
      (λ γ. name_done ! tt $ move ! (1 ∷ []) $
      use1 𝓛 (later (‵ (na_inv (γ, 1) (fauth γ g)))) (na_inv_new 𝓛 (γ, 1) (fauth γ g)) $ await ! tt $ move ! (2 ∷ []) $
      use1 𝓛 (later (‵ (na_bor κ (γ, 0) P))) (bor_na 𝓛 κ (γ, 0) P) $ await ! tt $ move !
      (1 ∷ 0 ∷ []) $ fjoin ! $ move ! (1 ∷ 0 ∷ []) $ fjoin ! $
      fpack ! GName (λ δ. fsep (fres δ g) (fsep (na_inv (δ, 1) (fauth δ g)) (na_bor κ (δ, 0) P))) γ $ now ! $ done !);
}
