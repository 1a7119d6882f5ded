-- What is printed of a derivation that is refused
use Rattle.std.proofs.Common.{◌≡◌, ℕ, List, ◌++◌, Some, codes, sym, ap, ◌∙◌}
use Rattle.std.specs.Fmt.{decimal}
use Rattle.vipr_spec.specs.Causes.{cause_name}
use Rattle.vipr_cert.specs.Text.{name_text}
use Rattle.vipr_check.specs.Explanation.{behind_item, detail_text, explained_text, refused_name}
use Rattle.vipr_check.specs.declared.verdict.Place.TheVariants.{Der}
use Rattle.vipr_check.specs.declared.verdict.Verdict.TheVariants.{Refused}
use Rattle.vipr_check.specs.{Text.verdict_text, declared.detail.Detail.Detail}
use Rattle.vipr_check.specs.{declared.verdict.Refusal.Refusal, declared.verdict.Verdict.Verdict}

pub derivation_explained : (v : Verdict) (x : Detail) (r : Refusal) (i : ℕ) (name cause : List ℕ)
    → v ≡ Refused r → r.place ≡ Der i → Some name ≡ refused_name x → cause ≡ cause_name r.cause
    → verdict_text v ++ (codes "\ncause " ++ (cause ++ (codes "\nderivation "
    ++ (decimal i ++ (codes " " ++ (name_text name ++ (codes "\n" ++ detail_text x)))))))
    ≡ explained_text v x
derivation_explained v x r i name cause is place named called =
    ap (λ w. verdict_text w
    ++ (codes "\ncause "
    ++ (cause ++ (codes "\n" ++ behind_item (Der i) (Some name) (detail_text x))))) is
    ∙ ap (λ t. verdict_text (Refused r)
    ++ (codes "\ncause "
    ++ (t ++ (codes "\n" ++ behind_item (Der i) (Some name) (detail_text x))))) called
    ∙ ap (λ p. verdict_text (Refused r)
    ++ (codes "\ncause "
    ++ (cause_name r.cause ++ (codes "\n" ++ behind_item p (Some name) (detail_text x)))))
    (sym place)
    ∙ ap (λ n. verdict_text (Refused r)
    ++ (codes "\ncause "
    ++ (cause_name r.cause ++ (codes "\n" ++ behind_item r.place n (detail_text x))))) named
    ∙ ap (λ w. explained_text w x) (sym is)
