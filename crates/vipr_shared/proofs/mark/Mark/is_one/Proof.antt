-- `is_one` asks first whether the two have one name. If so, they have one value and place, and the
-- word is opened once. If not, both words are opened, and what is read is 0. Assumes `Logic`.
use Rattle.std.proofs.Common.{◌≡◌, ℕ, Bool, true, false, IsTrue, List, [], ◌∷◌, ◌++◌, refl, sym}
use Rattle.std.proofs.Common.{lit<, true≢false}
use Rattle.std.proofs.{alloc.Shapes.after, raw_atomic.Walks.leaves}
use Rattle.std.specs.Coded.{Coded, coded×, coded_ℕ}
use native.Mathlib.Decide.{ℕ_discrete}
use mir.Syntax.{Fn, Args, a_type}
use mir.Val.{Val, vptr, vbool}
use mir.MapTy.{inst_fn}
use base.Logic.{SProp, emp}
use base.Fraction.{full_share}
use base.Fml.{Lft, Share, Mask, GName, ftrue, fat, flft, ftok, fauth}
use base.Mask.{every, less, less_other}
use prog.Wp.{Env, WpFn}
use contract.Monad.{fact, fact_i}
use types.Kit.{Item, ‵, raw, ◌⊛◌, prop, at_ret, ◌$◌, ◌∵◌, !, qed, by, move, keep, use0, split}
use types.Kit.{split3, join, rewrite, regoal, fsplit, fsplit3, fjoin, fpick, feq_i}
use types.Part.{whole, sub, look_in, store_in}
use types.Run.{stop, fld, load, lit, bin, addr, of_opd, assigns, first, blocks, exec, returns}
use types.Run.{enter}
use types.ByLocal.{alloc_all, pass_all, free_all, look_at, get, through, sets, sets_last, env}
use types.Na.{na_inv}
use denote.RattleType.{RattleType, owns}
use denote.Opens.{unhide}
use denote.Param.{param, layouts}
use denote.Signature.{types_at}
use denote.Steps.{nothing}
use denote.Triple.Walked.{Stays, stay_dropped, walk_of, Goes-dropped}
use Rattle.vipr_shared.specs.contracts.mark.Mark.is_one.{ended, clauses}
use Rattle.vipr_shared.specs.{Ownership.named, contracts.mark.Mark.is_one.Key.name as #self}
use Rattle.vipr_shared.proofs.Walks.{slot_at, with_token, proved_with_token}
use Rattle.vipr_shared.proofs.Marks.{opens_mark, shuts_mark, agrees}
use Rattle.vipr_shared.proofs.mark.Mark.is_one.Statement.{statement}
use Rattle.vipr_shared.proofs.{Values.mark_type, Values.mark_val, mark.Mark.is_one.Code.code}
use Rattle.vipr_shared.proofs.mark.Mark.is_one.Code as compiled

decided : {X : Type 1} {A : Type 0} → Dec A → (A → X) → (¬ A → X) → X
decided (yes a) f g = f a
decided (no n) f g = g n

pub is_one_spec : {M : Type 1} → statement M
unfolding code
is_one_spec 𝓤 𝓛 𝓜 𝓡 wired Y laws =
    let H = 𝓛.H in
    let En₀ = ended Y in
    let c₀ = clauses Y 𝓛 𝓜.mem 𝓡.returns in
    let args : Args = layouts (a_type ∷ []) (Y, tt) in
    let fn : Fn = inst_fn args compiled.function in
    let hs : Stays En₀.signature.params En₀.kept = (
      stay_dropped (slot_at 0 En₀.signature.params) En₀.kept.0,
      (stay_dropped (slot_at 1 En₀.signature.params) En₀.kept.1.0, tt),
    ) in
    let c = with_token 𝓛 En₀ hs c₀ in
    proved_with_token 𝓛 En₀ hs c₀ 𝓜 𝓡 (
      Goes-dropped 𝓛 3 (slot_at 0 En₀.signature.params) En₀.kept.0 (λ κs x f. refl),
      (Goes-dropped 𝓛 3 (slot_at 1 En₀.signature.params) En₀.kept.1.0 (λ κs x f. refl), tt),
    )
    (#self args) fn (wired.0.0 (#self args) refl) (λ C Λ z are.
    let Post : Val → SProp 𝓤 = (walk_of 𝓛 En₀ hs c).post z in
    let a = z.0.3 in
    let vss = z.0.4 in
    let κ : Lft = z.0.0.0 in
    let q : Share = z.0.1.0 in
    let μ : Lft = z.0.0.1.0 in
    let r : Share = z.0.1.1.0 in
    let Z : RattleType = param 0 Y in
    let b = a.0.ref_ptr.0 in
    let o = a.0.ref_ptr.1 in
    let d = a.1.0.ref_ptr.0 in
    let e = a.1.0.ref_ptr.1 in
    let x = a.0.now in
    let y = a.1.0.now in
    let coding : Coded (Z.Denot × (ℕ × ℕ)) = coded× Z.coded (coded× coded_ℕ coded_ℕ) in
    let last : Item 𝓤 = ‵ (flft z.0.0.1.1.0 z.0.1.1.1.0) ⊛ ‵ ftrue in
    let Says : Bool → Type 0 = λ answer. IsTrue answer → x ≡ y in
    qed 𝓛 (((‵ (flft κ q) ⊛ ‵ (flft μ r) ⊛ last) ⊛ ‵
    (owns (types_at En₀.signature.params z.0.0) a vss))
    ∷ (‵ (ftok every) ⊛ raw ((c₀ z.0.0 a).requires z.1)) ∷ []) ∵
    split ! $ split3 ! $ move ! (3 ∷ []) $ fsplit ! $ fsplit ! $ move ! (2 ∷ []) $ fsplit ! $ fsplit
    ! $ move ! (8 ∷ []) $ split ! $ keep ! (6 ∷ 7 ∷ 0 ∷ 3 ∷ 8 ∷ 9 ∷ []) $
    regoal ! (λ (us : List Val). prop (WpFn 𝓤 H C Λ fn us Post)) (λ i. are.0.0 i ++ (are.1.0.0 i ++ [])) refl $
    -- [the first; its token; the thread's; the second; its token; the others]
    unhide ! $ fpick ! (λ γ. fsplit3 ! $ move ! (5 ∷ []) $ unhide ! $ fpick ! (λ δ. fsplit3 ! $
    -- [δ says; it is kept; the second; γ says; it is kept; the first; the tokens; the locals]
    enter ! C Λ fn (vptr b o ∷ vptr d e ∷ []) Post $
    alloc_all ! (λ l. pass_all ! refl ((tt, tt), ((tt, tt), tt)) $ let En : Env 𝓤 𝓛.H = env fn.locals l in
    decided (ℕ_discrete δ γ)
    (λ same. rewrite ! 1 (λ (n : GName). ‵ (na_inv (n, 1) (fauth n (named Z.coded y d e)))) same
    refl $ move ! (7 ∷ 1 ∷ 3 ∷ []) $
    agrees ! tt coding (γ, 1) γ (x, (b, o)) (y, (d, e)) (λ one.
    let place : ◌≡◌ {A = ℕ × ℕ} (b, o) (d, e) = λ i. (one i).1 in
    move ! (5 ∷ 6 ∷ 0 ∷ []) $
    opens_mark Z b o ! tt every (γ, 0) refl $
    sets ! (addr ! (through ! refl (fld ! refl (stop !)))) refl (tt, tt) $
    sets ! (addr ! (through ! refl (fld ! refl (stop !)))) refl (tt, tt) $
    first ! $ blocks ! $
    assigns ! (of_opd ! (lit ! tt)) (through ! refl (stop !))
    (store_in ! 0 (sub ! 0 refl (whole !)) (tt, record { fits = lit< tt })) $
    rewrite ! 0 (λ (k : ℕ × ℕ). ‵ (fat full_share mark_type k.0 k.1 (mark_val 1))) place refl $
    sets ! (of_opd ! (load ! (through ! refl (stop !)) (look_in ! 0 (sub ! 0 refl (whole !))))) refl
    (tt, record { fits = lit< tt }) $
    rewrite ! 0 (λ (k : ℕ × ℕ). ‵ (fat full_share mark_type k.0 k.1 (mark_val 1))) (sym place) refl $
    assigns ! (of_opd ! (lit ! tt)) (through ! refl (stop !))
    (store_in ! 0 (sub ! 0 refl (whole !)) (tt, record { fits = lit< tt })) $
    sets_last ! (bin ! (get ! refl) (lit ! tt) tt) refl (tt, tt) $
    exec ! C Λ En (after 3 fn.body) (at_ret En Post) $
    sets ! (of_opd ! (get ! refl)) refl (tt, tt) $
    shuts_mark Z b o ! tt every (γ, 0) $
    returns ! (look_at ! 0 refl) $ free_all ! refl $ keep ! (0 ∷ 1 ∷ 6 ∷ 7 ∷ []) $
    feq_i ! (List Val) (vbool true ∷ []) (vbool true ∷ []) refl $ use0 𝓛 (raw (fact 𝓤 (Says true)))
    (fact_i 𝓤 (Says true) (emp 𝓤) (λ _ i. (one i).0)) $
    move ! (3 ∷ 0 ∷ []) $ join ! $ nothing ! $ nothing ! $ fjoin ! $ nothing ! $ fjoin ! $ move !
    (4 ∷ 5 ∷ []) $ join ! $ move ! (4 ∷ 0 ∷ []) $ join ! $ move ! (0 ∷ 1 ∷ 3 ∷ []) $
    by ! (leaves 𝓛 En₀ hs c z (vbool true) true (tt, (tt, tt)) (tt, (tt, tt)))))
    (λ other.
    move ! (5 ∷ 6 ∷ 7 ∷ 2 ∷ 8 ∷ []) $
    let E : Mask = less every (γ, 0) in
    opens_mark Z b o ! tt every (γ, 0) refl $ move ! (1 ∷ []) $ split ! $ move ! (3 ∷ 4 ∷ 0 ∷ []) $
    opens_mark Z d e ! tt E (δ, 0) (less_other every (γ, 0) (δ, 0) (λ p. other (λ i. (sym p i).0))) $
    -- [the second word; what shuts it; what shuts the first; the first word; the others]
    sets ! (addr ! (through ! refl (fld ! refl (stop !)))) refl (tt, tt) $
    sets ! (addr ! (through ! refl (fld ! refl (stop !)))) refl (tt, tt) $
    first ! $ blocks ! $
    assigns ! (of_opd ! (lit ! tt)) (through ! refl (stop !))
    (store_in ! 3 (sub ! 0 refl (whole !)) (tt, record { fits = lit< tt })) $
    sets ! (of_opd ! (load ! (through ! refl (stop !)) (look_in ! 0 (sub ! 0 refl (whole !))))) refl
    (tt, record { fits = lit< tt }) $
    assigns ! (of_opd ! (lit ! tt)) (through ! refl (stop !))
    (store_in ! 3 (sub ! 0 refl (whole !)) (tt, record { fits = lit< tt })) $
    sets_last ! (bin ! (get ! refl) (lit ! tt) tt) refl (tt, tt) $
    exec ! C Λ En (after 3 fn.body) (at_ret En Post) $
    sets ! (of_opd ! (get ! refl)) refl (tt, tt) $
    shuts_mark Z d e ! tt E (δ, 0) $ move ! (1 ∷ 2 ∷ []) $ join ! $ move ! (2 ∷ 0 ∷ []) $
    shuts_mark Z b o ! tt every (γ, 0) $
    returns ! (look_at ! 0 refl) $ free_all ! refl $ keep ! (0 ∷ 1 ∷ 2 ∷ 7 ∷ []) $
    feq_i ! (List Val) (vbool false ∷ []) (vbool false ∷ []) refl $ use0 𝓛
    (raw (fact 𝓤 (Says false)))
    (fact_i 𝓤 (Says false) (emp 𝓤) (λ p. absurd (true≢false (sym p)))) $
    move ! (3 ∷ 0 ∷ []) $ join ! $ nothing ! $ nothing ! $ fjoin ! $ nothing ! $ fjoin ! $ move !
    (4 ∷ 5 ∷ []) $ join ! $ move ! (4 ∷ 0 ∷ []) $ join ! $ move ! (0 ∷ 1 ∷ 3 ∷ []) $
    by ! (leaves 𝓛 En₀ hs c z (vbool false) false (tt, (tt, tt)) (tt, (tt, tt))))))))
