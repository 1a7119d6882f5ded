-- A mark is reached through a `&` with the thread's token, and left again; two of one name have one
-- value and place. Assumes `Logic`.
use Rattle.std.proofs.Common.{◌≡◌, ℕ, List, [], ◌∷◌, true, refl, lit<}
use Rattle.std.specs.Coded.{Coded}
use seplogic.Ra.Ura.{Ura}
use mir.Val.{Val}
use base.Fraction.{full_share}
use base.Logic.{sep, wand, apply∗}
use base.Fml.{Lft, Share, Fml, GName, Key, Mask, Incl-refl, ftrue, fsep, fex, fat, flft, ftok}
use base.Fml.{fauth, fres}
use base.Mask.{every, just, less, take}
use types.Logic.{Logic, sem}
use types.Kit.{Item, Goal, Seq, Step, Soaks, step, ‵, raw, ◌⊛◌, later, ◌$◌, move, drop, use0, use1}
use types.Kit.{use2, use3, split, join, fsplit, fjoin, fpick, fpack, rewrite, await}
use types.Tokens.{res_agree}
use types.Na.{na_bor, na_acc_in, na_inv, na_inv_acc}
use denote.RattleType.{RattleType}
use denote.Memory.{cell_at}
use denote.Shadow.{pure_l}
use denote.Steps.{nothing}
use Rattle.vipr_shared.specs.Ownership.{is_zero, fields_with}
use Rattle.vipr_shared.specs.contracts.mark.Mark.TheInside as inside
use Rattle.vipr_shared.proofs.Values.{mark_type, mark_val, mark_own, mark_shown, mark_made}

module _ (Z : RattleType) (b o : ℕ) where
  abbrev F : RattleType
  F = inside.the_row Z

  abbrev pub Inner : Fml
  Inner = fields_with F (λ i. is_zero i.word) b o

  abbrev pub word_at : ℕ → Fml
  word_at n = fat full_share mark_type b o (mark_val n)

  abbrev pub Shut : {M : Type 1} {𝓤 : Ura M} (𝓛 : Logic 𝓤) → Mask → Key → Lft → Share → Item 𝓤
  Shut {𝓤 = 𝓤} 𝓛 E k κ q =
      ‵ (ftok (less E k)) ⊛ raw
      (wand 𝓤 (sep 𝓤 (sem 𝓛 Inner) (𝓛.A.tok (less E k))) (𝓛.H.⇛ (sep 𝓤 (𝓛.A.lft κ q) (𝓛.A.tok E))))

  module _ {M : Type 1} {𝓤 : Ura M} {𝓛 : Logic 𝓤} {K : Type 0} {Γ : List (Item 𝓤)} {G : Goal 𝓤 𝓛.H} where
    open 𝓛 use {H, A}

    pub opens_mark : K → Soaks G → (E : Mask) (k : Key) → E k ≡ true → {κ : Lft} {q : Share}
        → Step K 𝓛 (‵ (word_at 0) ∷ Shut 𝓛 E k κ q ∷ Γ) G (‵ (na_bor κ k Inner) ∷ ‵ (flft κ q) ∷ ‵ (ftok E) ∷ Γ) G
    opens_mark t z E k has {κ} {q} = step (λ next.
        use3 𝓛 (later (‵ Inner ⊛ Shut 𝓛 E k κ q))
        (na_acc_in 𝓛 κ ((κ, q) ∷ []) E k Inner (Incl-refl κ) has) $ await t z $ split t $
        fpick t (λ vs. fsplit t $ move t (1 ∷ []) $ fpick t (λ i. fsplit t $ pure_l t (mark_own i.word vs) (λ s.
        fpick t (λ zero. drop t $ rewrite t 0
        (λ (us : List Val). ‵ (cell_at full_share F.mir us b o)) (mark_shown i.word vs s).0 refl
        $
        rewrite t 0 (λ (n : ℕ). ‵ (word_at n)) zero refl $ next)))))

    pub shuts_mark : K → Soaks G → (E : Mask) (k : Key) → {κ : Lft} {q : Share}
        → Step K 𝓛 (‵ (flft κ q) ∷ ‵ (ftok E) ∷ Γ) G (‵ (word_at 0) ∷ Shut 𝓛 E k κ q ∷ Γ) G
    shuts_mark t z E k {κ} {q} = step (λ s.
        let vs : List Val = mark_val 0 ∷ [] in
        let i : F.Denot = record { word = 0; marker = record {} } in
        nothing t $ fpack t (0 ≡ 0) (λ _. ftrue) refl $
        use0 𝓛 (‵ (F.own_val i vs)) (mark_made 𝓛 0 (lit< tt)) $ fjoin t $
        fpack t F.Denot (λ j. fsep (F.own_val j vs) (is_zero j.word)) i $ move t (1 ∷ 0 ∷ []) $ fjoin t $
        fpack t (List Val)
        (λ us. fsep (cell_at full_share F.mir us b o)
        (fex F.Denot (λ j. fsep (F.own_val j us) (is_zero j.word)))) vs $
        move t (1 ∷ []) $ split t $ move t (2 ∷ 0 ∷ []) $ join t $
        use2 𝓛 (later (‵ (flft κ q) ⊛ ‵ (ftok E)))
        (apply∗ 𝓤 (sep 𝓤 (sem 𝓛 Inner) (A.tok (less E k))) (H.⇛ (sep 𝓤 (A.lft κ q) (A.tok E))))
        $ await t z $ split t $ s)

module _ {M : Type 1} {𝓤 : Ura M} {𝓛 : Logic 𝓤} {K : Type 0} {Γ : List (Item 𝓤)} {G : Goal 𝓤 𝓛.H} where
  open 𝓛 use {H, A}

  -- what a name says for good is what is kept under it
  pub agrees : K → Soaks G → {X : Type 0} (c : Coded X) (k : Key) (γ : GName) (x y : X)
      → (x ≡ y → Seq K 𝓛 (‵ (ftok every) ∷ ‵ (fres γ (c.code x)) ∷ Γ) G)
      → Seq K 𝓛 (‵ (ftok every) ∷ ‵ (na_inv k (fauth γ (c.code y))) ∷ ‵ (fres γ (c.code x)) ∷ Γ) G
  agrees t z c k γ x y next =
      use1 𝓛 (‵ (ftok (just k)) ⊛ ‵ (ftok (less every k)))
      (𝓛.invs.tok_cut every (just k) (less every k) (take every k refl)) $ split t $ move t
      (2 ∷ 0 ∷ []) $
      use2 𝓛 (later
      (‵ (fauth γ (c.code y)) ⊛ raw (wand 𝓤 (A.auth γ (c.code y)) (H.⇛ (A.tok (just k))))))
      (na_inv_acc 𝓛 k (fauth γ (c.code y))) $ await t z $ split t $
      move t (3 ∷ 0 ∷ []) $ res_agree t c {x = x} {y = y} (λ same. move t (1 ∷ 2 ∷ []) $
      use2 𝓛 (later (‵ (ftok (just k)))) (apply∗ 𝓤 (A.auth γ (c.code y)) (H.⇛ (A.tok (just k)))) $
      await t z $ move t (0 ∷ 2 ∷ []) $
      use2 𝓛 (‵ (ftok every)) (𝓛.invs.tok_glue every (just k) (less every k) (take every k refl)) $ next same)
