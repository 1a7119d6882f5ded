-- The tokens of a text without their offsets
use Rattle.std.proofs.Common.{◌≡◌, ℕ, ◌+◌, Bool, true, false, not, ◌==◌, if◌then◌else◌, List, []}
use Rattle.std.proofs.Common.{◌∷◌, ◌++◌, arith, refl, sym, ◌∙◌, ap, ap₂, append-nil, append_assoc}
use Rattle.vipr_spec.specs.Tokens.{Token, is_white, run, is_cut, token_here, tokens_from}
use Rattle.vipr_spec.specs.Tokens.{tokens_after_front, text_tokens}
use Rattle.vipr_spec.specs.Short as short
use Rattle.vipr_spec.proofs.GrammarSteps.{bytes_of}

run_white : (b : ℕ) (bs : List ℕ) → is_white b ≡ true → run (b ∷ bs) ≡ []
run_white b bs e = rw e refl

run_solid : (b : ℕ) (bs : List ℕ) → is_white b ≡ false → run (b ∷ bs) ≡ b ∷ run bs
run_solid b bs e = grind arith

chosen : (x : Bool) (f : List Token → List (List ℕ)) (ts us : List Token) (xs ys : List (List ℕ))
    → (x ≡ true → f ts ≡ xs) → (x ≡ false → f us ≡ ys)
    → f (if x then ts else us) ≡ (if x then xs else ys)
chosen x f ts us xs ys h k = grind arith

-- the tokens from a place outside of a run, and from one within the run that began with a and w
abbrev Outside : List ℕ → Type 0
Outside bs = (o : ℕ) → bytes_of (tokens_from false false o bs) ≡ short.tokens [] bs

abbrev Within : List ℕ → Type 0
Within bs = (o a : ℕ) (w : List ℕ)
    → (a ∷ (w ++ run bs)) ∷ bytes_of (tokens_from false true o bs) ≡ short.tokens (a ∷ w) bs

outside_next : (b : ℕ) (bs : List ℕ) → Outside bs → Within bs → Outside (b ∷ bs)
unfolding is_white tokens_from token_here is_cut
outside_next b bs h k o =
    chosen (is_white b) bytes_of (tokens_from false false (o + 1) bs)
    (record { bytes = run (b ∷ bs); offset = o } ∷ tokens_from false true (o + 1) bs)
    (short.tokens [] bs) (short.tokens (b ∷ []) bs)
    (λ e. h (o + 1))
    (λ e. ap (λ r. r ∷ bytes_of (tokens_from false true (o + 1) bs)) (run_solid b bs e) ∙ k (o + 1) b [])

within_next : (b : ℕ) (bs : List ℕ) → Outside bs → Within bs → Within (b ∷ bs)
unfolding is_white tokens_from
within_next b bs h k o a w =
    chosen (is_white b) (λ ts. (a ∷ (w ++ run (b ∷ bs))) ∷ bytes_of ts)
    (tokens_from false false (o + 1) bs) (tokens_from false true (o + 1) bs)
    ((a ∷ w) ∷ short.tokens [] bs) (short.tokens (a ∷ (w ++ b ∷ [])) bs)
    (λ e. ap₂ (λ v ts. (a ∷ v) ∷ ts) (ap (λ r. w ++ r) (run_white b bs e) ∙ append-nil w) (h (o + 1)))
    (λ e. ap (λ v. (a ∷ v) ∷ bytes_of (tokens_from false true (o + 1) bs))
    (ap (λ r. w ++ r) (run_solid b bs e) ∙ sym (append_assoc w (b ∷ []) (run bs)))
    ∙ k (o + 1) a (w ++ b ∷ []))

both : (bs : List ℕ) → Outside bs × Within bs
unfolding tokens_from
both [] = (λ o. refl, λ o a w. ap (λ v. (a ∷ v) ∷ []) (append-nil w))
both (b ∷ bs) = let h = both bs in (outside_next b bs h.0 h.1, within_next b bs h.0 h.1)

front_alike : (x : Bool) (ts us : List Token) (cs ds : List ℕ)
    → bytes_of ts ≡ short.tokens [] cs → bytes_of us ≡ short.tokens [] ds
    → bytes_of (if x then ts else us) ≡ short.tokens [] (if x then cs else ds)
front_alike x ts us cs ds e h = grind arith

same_front : (commented : Bool) (o : ℕ) (bs : List ℕ)
    → bytes_of (tokens_after_front false commented o bs)
    ≡ short.tokens [] (short.without_front commented bs)
unfolding is_white tokens_after_front
same_front commented o [] = refl
same_front true o (b ∷ bs) = same_front (not (b == 10)) (o + 1) bs
same_front false o (b ∷ bs) =
    front_alike (b == 37) (tokens_after_front false true (o + 1) bs) _ (short.without_front true bs)
    _ (same_front true (o + 1) bs)
    (front_alike (is_white b) (tokens_after_front false false (o + 1) bs)
    (tokens_from false false o (b ∷ bs)) (short.without_front false bs) (b ∷ bs)
    (same_front false (o + 1) bs) ((both (b ∷ bs)).0 o))

pub same_tokens : (bytes : List ℕ)
    → bytes_of (text_tokens bytes) ≡ short.tokens [] (short.without_front false bytes)
same_tokens bytes = same_front false 0 bytes
