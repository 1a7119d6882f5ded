-- `new` lays the word out as 0, for the value that is behind the `&`. Assumes `Logic`.
use Rattle.std.proofs.Common.{◌≡◌, ℕ, List, [], ◌∷◌, ◌++◌, refl, lit<}
use mir.Syntax.{Fn, Args, a_type}
use mir.Val.{Val, vptr}
use mir.MapTy.{inst_fn}
use base.Logic.{SProp, emp}
use base.Fml.{ftrue, fsep}
use prog.Wp.{Env, WpFn}
use contract.Monad.{fact, fact_i}
use contract.Running.{tables}
use types.Kit.{‵, raw, ◌⊛◌, prop, ◌$◌, ◌∵◌, !, qed, by, move, drop, use0, split, regoal, fjoin}
use types.Kit.{fpack}
use types.Part.{agg}
use types.Run.{lit, no_more, and_then, returns, enter}
use types.ByLocal.{alloc_all, pass_all, free_all, look_at, get, sets, env}
use denote.RattleType.{RattleType, owns}
use denote.Laws.{Typed}
use denote.Param.{param, layouts}
use denote.Signature.{types_at}
use denote.Steps.{nothing}
use denote.Triple.Entry.{alive}
use denote.Triple.Walked.{Stays, stay_dropped, walk_of, Goes-dropped}
use Rattle.std.proofs.raw_atomic.Walks.{proved_at, leaves}
use Rattle.vipr_shared.specs.contracts.mark.Mark.new.{ended, clauses}
use Rattle.vipr_shared.specs.{Ownership.is_zero, contracts.mark.Mark.new.Key.name as #self}
use Rattle.vipr_shared.proofs.Values.{mark_val, mark_made, mark_typed}
use Rattle.vipr_shared.proofs.{Walks.slot_at, mark.Mark.new.Statement.statement}
use Rattle.vipr_shared.specs.contracts.mark.Mark.TheInside as inside
use Rattle.vipr_shared.proofs.mark.Mark.new.Code as compiled

pub new_spec : {M : Type 1} → statement M
new_spec 𝓤 𝓛 𝓜 𝓡 wired Y laws =
    let H = 𝓛.H in
    let En₀ = ended Y in
    let c = clauses Y 𝓛 𝓜.mem 𝓡.returns in
    let args : Args = layouts (a_type ∷ []) (Y, tt) in
    let fn : Fn = inst_fn args compiled.function in
    let hs : Stays En₀.signature.params En₀.kept = (stay_dropped (slot_at 0 En₀.signature.params) En₀.kept.0, tt) in
    let C = (tables 𝓤 H 𝓜 𝓡 𝓡.env).C in
    let Λ = (tables 𝓤 H 𝓜 𝓡 𝓡.env).Λ in
    proved_at 𝓛 En₀ hs c 𝓜 𝓡
    (Goes-dropped 𝓛 2 (slot_at 0 En₀.signature.params) En₀.kept.0 (λ κs x f. refl), tt)
    (#self args) fn (compiled.unfolded 𝓤 H 𝓜 𝓡 wired (Y, tt)) (λ z are.
    let Post : Val → SProp 𝓤 = (walk_of 𝓛 En₀ hs c).post z in
    let a = z.0.3 in
    let vss = z.0.4 in
    let F : RattleType = inside.the_row (param 0 Y) in
    let x = a.0.now in
    let v : Val = mark_val 0 in
    qed 𝓛 ((raw (alive 𝓛 En₀.signature z.0.0 z.0.1) ⊛ ‵
    (owns (types_at En₀.signature.params z.0.0) a vss)) ∷ raw ((c z.0.0 a).requires z.1) ∷ []) ∵
    move ! (1 ∷ []) $ drop ! $ split ! $ move ! (1 ∷ []) $ drop ! $
    regoal ! (λ (us : List Val). prop (WpFn 𝓤 H C Λ fn us Post)) (λ i. are.0.0 i ++ []) refl $
    enter ! C Λ fn (vptr a.0.ref_ptr.0 a.0.ref_ptr.1 ∷ []) Post $
    alloc_all ! (λ l. pass_all ! refl ((tt, tt), tt) $ let En : Env 𝓤 𝓛.H = env fn.locals l in
    sets ! (agg ! (no_more !)) refl (tt, tt) $
    sets ! (agg ! (and_then ! (lit ! tt) (and_then ! (get ! refl) (no_more !)))) refl (mark_typed 0 (lit< tt)) $
    returns ! (look_at ! 0 refl) $ free_all ! refl $
    nothing ! $ fpack ! (◌≡◌ {A = ℕ} 0 0) (λ _. ftrue) refl $
    use0 𝓛 (‵ (F.own_val (record { word = 0; marker = record {} }) (v ∷ []))) (mark_made 𝓛 0 (lit< tt)) $ fjoin ! $
    fpack ! F.Denot (λ i. fsep (F.own_val i (v ∷ [])) (is_zero i.word)) (record { word = 0; marker = record {} }) $
    nothing ! $ fpack ! (Typed F.mir (v ∷ [])) (λ _. ftrue) (mark_typed 0 (lit< tt), tt) $ fjoin ! $
    use0 𝓛 (raw (fact 𝓤 (x ≡ x))) (fact_i 𝓤 (x ≡ x) (emp 𝓤) refl) $ nothing ! $ nothing ! $ fjoin !
    $ move ! (3 ∷ 0 ∷ 2 ∷ 1 ∷ []) $
    by ! (leaves 𝓛 En₀ hs c z v x (tt, tt) (tt, tt))))
