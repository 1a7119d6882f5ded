-- The tokens of a text are the one list that it is made up of.
use Rattle.std.proofs.Common.{◌≡◌, ◌≢◌, ℕ, ◌+◌, ◌<◌, ◌≤◌, ◌⊎◌, Bool, true, false, nat_eq}
use Rattle.std.proofs.Common.{List, [], ◌∷◌, ◌++◌, length, take, drop, get_or, suc, refl, sym, ap}
use Rattle.std.proofs.Common.{subst, ◌∙◌, inl, inr, arith, append_assoc, add-zero}
use Rattle.std.proofs.lemmas.List.Elements.{All-nil, All-cons}
use Rattle.std.proofs.Math.Seq.{take-append_seam, drop-append_seam, get_or-append_right}
use Rattle.std.proofs.lemmas.Bool.{false≢true, cases_eq, ne_eqb, eqb-false, eqb-true}
use Rattle.std.proofs.{Math.ListN.get_or-append, lemmas.List.append-nil, lemmas.List.length-append}
use Rattle.std.specs.List.{All, concat}
use Rattle.vipr_spec.specs.{Token, is_white, run, is_cut, token_here, tokens_from}
use Rattle.vipr_spec.specs.{tokens_after_front, text_tokens, Begins, IsWhite, IsComment, IsBlank}
use Rattle.vipr_spec.specs.{IsFrontEnd, IsFront, AreSpread, AreTokens}
use Rattle.vipr_spec.proofs.TokenLaws.{run_is, token_whole}

-- ---- no other list

tail_all : {X : Type 0} (P : X → Type 0) (x : X) (xs : List X) → All P (x ∷ xs) → All P xs
tail_all P x xs h k d lt = h (suc k) d (omega arith)

skip_white : (offset : ℕ) (gap xs : List ℕ) → All IsWhite gap
    → tokens_from false false offset (gap ++ xs) ≡ tokens_from false false (offset + length gap) xs
unfolding tokens_from
skip_white offset [] xs white = rw add-zero refl
skip_white offset (b ∷ bs) xs white =
    let w : is_white b ≡ true = white 0 b (omega arith) in
    let e : offset + 1 + length bs ≡ offset + length (b ∷ bs) = omega arith in
    rw (w, ← e) (skip_white (offset + 1) bs xs (tail_all IsWhite b bs white))

pub first_white : (bytes after : List ℕ) → Begins IsWhite after → length bytes < length (bytes ++ after)
    → is_white (get_or (bytes ++ after) (length bytes) 0) ≡ true
first_white bytes after begins lt = grind (arith, length-append, get_or-append_right)

spread_one : (offset : ℕ) (text : List ℕ) (ts : List Token) → AreSpread offset text ts
    → ts ≡ tokens_from false false offset text
unfolding AreSpread tokens_from
spread_one offset text [] white =
    let e : tokens_from false false offset (text ++ []) ≡ [] = skip_white offset text [] white in
    sym (rw append-nil at e)
spread_one offset text (t ∷ ts) (gap, after, is, white, solid, begins, at, more) =
    let within : length t.bytes ≤ length (t.bytes ++ after) = omega (arith, length-append t.bytes after) in
    let w : tokens_from false false t.offset (t.bytes ++ after) ≡ record {
      bytes =
          take (length t.bytes) (t.bytes ++ after);
      offset = t.offset;
    } ∷ tokens_from false false
    (t.offset + length t.bytes) (drop (length t.bytes) (t.bytes ++ after)) =
    grind (arith, token_whole, get_or-append, first_white) in
    let v : tokens_from false false t.offset (t.bytes ++ after) ≡ t ∷ tokens_from false false
    (t.offset + length t.bytes) after =
    rw (take-append_seam t.bytes after, drop-append_seam t.bytes after) at w in
    let m : ts ≡ tokens_from false false (t.offset + length t.bytes) after =
    spread_one (t.offset + length t.bytes) after ts more in
    rw (is, skip_white offset gap (t.bytes ++ after) white, ← at, v, ← m) refl

white_not_percent : (b : ℕ) → is_white b ≡ true → nat_eq b 37 ≡ false
unfolding is_white
white_not_percent b w = elim (cases_eq b 37) [ inl h ↦ absurd (false≢true (rw h at w)) | inr h ↦ ne_eqb b 37 h ]

stays : (offset b : ℕ) (bs : List ℕ) → b ≢ 10
    → tokens_after_front false true offset (b ∷ bs) ≡ tokens_after_front false true (offset + 1) bs
unfolding tokens_after_front
stays offset b bs other = grind (arith, ne_eqb)

in_comment : (offset : ℕ) (bytes xs : List ℕ) → IsComment bytes
    → tokens_after_front false true offset (bytes ++ 10 ∷ xs)
    ≡ tokens_after_front false false (offset + length bytes + 1) xs
unfolding tokens_after_front
in_comment offset [] xs free = rw add-zero refl
in_comment offset (b ∷ bs) xs free =
    let e : offset + 1 + length bs + 1 ≡ offset + length (b ∷ bs) + 1 = omega arith in
    rw (← e) (stays offset b (bs ++ 10 ∷ xs) (free 0 b (omega arith))
    ∙ in_comment (offset + 1) bs xs (tail_all (λ c. c ≢ 10) b bs free))

open_comment : (offset : ℕ) (bytes : List ℕ) → IsComment bytes
    → tokens_after_front false true offset bytes ≡ []
unfolding tokens_after_front
open_comment offset [] free = refl
open_comment offset (b ∷ bs) free = stays offset b bs (free 0 b (omega arith))
    ∙ open_comment (offset + 1) bs (tail_all (λ c. c ≢ 10) b bs free)

skip_blank : (offset : ℕ) (piece xs : List ℕ) → IsBlank piece
    → tokens_after_front false false offset (piece ++ xs)
    ≡ tokens_after_front false false (offset + length piece) xs
unfolding tokens_after_front
skip_blank offset piece xs h = grind (arith, white_not_percent, length-append, append_assoc, in_comment)

skip_blanks : (offset : ℕ) (blanks : List (List ℕ)) (xs : List ℕ) → All IsBlank blanks →
    tokens_after_front false false offset (concat blanks ++ xs)
    ≡ tokens_after_front false false (offset + length (concat blanks)) xs
skip_blanks offset [] xs blank = rw add-zero refl
skip_blanks offset (p ∷ ps) xs blank =
    let e : offset + length (p ++ concat ps) ≡ offset + length p + length (concat ps) =
    omega (arith, length-append p (concat ps)) in
    let f : tokens_after_front false false offset (p ++ (concat ps ++ xs)) ≡ tokens_after_front
    false false (offset + length p) (concat ps ++ xs) =
    skip_blank offset p (concat ps ++ xs) (blank 0 p (omega arith)) in
    rw (append_assoc, f, e) (skip_blanks (offset + length p) ps xs (tail_all IsBlank p ps blank))

after_front : (offset : ℕ) (rest : List ℕ) → Begins (λ b. (is_white b ≡ false) × (b ≢ 37)) rest
    → tokens_after_front false false offset rest ≡ tokens_from false false offset rest
unfolding tokens_after_front tokens_from
after_front offset rest begins = grind (arith, ne_eqb)

ended : (offset : ℕ) (ending rest : List ℕ) (ts : List Token) → IsFrontEnd ending rest
    → Begins (λ b. (is_white b ≡ false) × (b ≢ 37)) rest →
    AreSpread (offset + length ending) rest ts
    → ts ≡ tokens_after_front false false offset (ending ++ rest)
unfolding tokens_after_front tokens_from
ended offset ending rest ts h begins spread = grind (arith, add-zero, after_front, spread_one, append-nil, open_comment)

pub split_one : (text : List ℕ) (ts : List Token) → AreTokens text ts → ts ≡ text_tokens text
split_one text ts (front, rest, is, f, spread) = grind (arith, length-append, append_assoc, skip_blanks, ended)

-- ---- this list

extend_white : (offset b : ℕ) (bs : List ℕ) (ts : List Token) → is_white b ≡ true
    → AreSpread (offset + 1) bs ts → AreSpread offset (b ∷ bs) ts
unfolding AreSpread
extend_white offset b bs [] w white = All-cons IsWhite b bs w white
extend_white offset b bs (t ∷ ts) w (gap, after, is, white, solid, begins, at, more) =
    let e : t.offset ≡ offset + length (b ∷ gap) = omega arith in
    (b ∷ gap, after, ap (λ (xs : List ℕ). b ∷ xs) is, All-cons IsWhite b gap w white, solid, begins, e, more)

-- a text that begins inside a run
abbrev pub Inside : ℕ → List ℕ → List Token → Type 0
Inside offset text ts = (word after : List ℕ) × (text ≡ word ++ after)
    × All (λ b. is_white b ≡ false) word × Begins IsWhite after
    × AreSpread (offset + length word) after ts

one_run : (b : ℕ) (bs word after : List ℕ) → bs ≡ word ++ after → is_white b ≡ false
    → All (λ b. is_white b ≡ false) word → Begins IsWhite after → run (b ∷ bs) ≡ b ∷ word
one_run b bs word after is w solid begins =
    let all : All (λ b. is_white b ≡ false) (b ∷ word) = All-cons (λ b. is_white b ≡ false) b word w solid in
    let r : run ((b ∷ word) ++ after) ≡ take (length (b ∷ word)) ((b ∷ word) ++ after) =
    grind (arith, run_is, length-append, get_or-append, first_white) in
    rw is (r ∙ take-append_seam (b ∷ word) after)

first_solid : (offset b : ℕ) (bs : List ℕ) → is_white b ≡ false
    → tokens_from false false offset (b ∷ bs) ≡ record { bytes = run (b ∷ bs); offset = offset }
    ∷ tokens_from false true (offset + 1) bs
unfolding tokens_from token_here is_cut
first_solid offset b bs w = rw w refl

inside_solid : (offset b : ℕ) (bs : List ℕ) → is_white b ≡ false
    → tokens_from false true offset (b ∷ bs) ≡ tokens_from false true (offset + 1) bs
unfolding tokens_from
inside_solid offset b bs w = rw w refl

first_is_white : (inside : Bool) (offset b : ℕ) (bs : List ℕ) → is_white b ≡ true
    → tokens_from false inside offset (b ∷ bs) ≡ tokens_from false false (offset + 1) bs
unfolding tokens_from
first_is_white inside offset b bs w = rw w refl

step : (offset b : ℕ) (bs : List ℕ) (w : Bool) → is_white b ≡ w →
    AreSpread (offset + 1) bs (tokens_from false false (offset + 1) bs)
    × Inside (offset + 1) bs (tokens_from false true (offset + 1) bs) →
    AreSpread offset (b ∷ bs) (tokens_from false false offset (b ∷ bs))
    × Inside offset (b ∷ bs) (tokens_from false true offset (b ∷ bs))
unfolding AreSpread
step offset b bs true w r = grind (arith, extend_white, add-zero, first_is_white)
step offset b bs false w (spread, (word, after, is, solid, begins, more)) =
    let e : offset + 1 + length word ≡ offset + length (b ∷ word) = omega arith in
    let more' : AreSpread (offset + length (b ∷ word)) after (tokens_from false true (offset + 1) bs) = grind arith in
    let all : All (λ b. is_white b ≡ false) (b ∷ word) = All-cons (λ b. is_white b ≡ false) b word w solid in
    let whole : b ∷ bs ≡ (b ∷ word) ++ after = ap (λ (xs : List ℕ). b ∷ xs) is in
    let some : 0 < length (b ∷ word) = omega arith in
    let first : tokens_from false false offset (b ∷ bs) ≡ record {
      bytes = b ∷ word;
      offset = offset;
    } ∷ tokens_from false true (offset + 1) bs =
    rw (← one_run b bs word after is w solid begins) (first_solid offset b bs w) in
    let spread : AreSpread offset (b ∷ bs) (record { bytes = b ∷ word; offset = offset }
    ∷ tokens_from false true (offset + 1) bs) = (
      [],
      after,
      whole,
      All-nil IsWhite,
      record { some = some; solid = λ k h. all k 0 h },
      begins,
      sym (add-zero offset),
      more',
    ) in (
      subst (λ (us : List Token). AreSpread offset (b ∷ bs) us) (sym first) spread,
      subst (λ (us : List Token). Inside offset (b ∷ bs) us) (sym (inside_solid offset b bs w))
          (b ∷ word, after, whole, all, begins, more'),
    )

spread_is : (bs : List ℕ) (offset : ℕ) → AreSpread offset bs (tokens_from false false offset bs)
    × Inside offset bs (tokens_from false true offset bs)
unfolding AreSpread tokens_from
spread_is [] offset = (All-nil IsWhite, ([], [], refl, All-nil (λ b. is_white b ≡ false), tt, All-nil IsWhite))
spread_is (b ∷ bs) offset = step offset b bs (is_white b) refl (spread_is bs (offset + 1))

-- a text from an offset on
abbrev pub FrontAt : ℕ → List ℕ → List Token → Type 0
FrontAt offset text ts = (front rest : List ℕ) × (text ≡ front ++ rest) × IsFront front rest
    × AreSpread (offset + length front) rest ts

-- a text that begins within a comment
abbrev pub CommentAt : ℕ → List ℕ → List Token → Type 0
CommentAt offset text ts = (bytes : List ℕ) × IsComment bytes
    × (((text ≡ bytes) × (ts ≡ []))
    ⊎ ((rest : List ℕ) × (text ≡ bytes ++ 10 ∷ rest) × FrontAt (offset + length bytes + 1) rest ts))

more_front : (offset : ℕ) (piece text : List ℕ) (ts : List Token) → IsBlank piece
    → FrontAt (offset + length piece) text ts → FrontAt offset (piece ++ text) ts
more_front offset piece text ts blank (front, rest, is, f, spread) =
    let e : offset + length piece + length front ≡ offset + length (piece ++ front) =
    omega (arith, length-append piece front) in
    let j : piece ++ front ≡ (piece ++ concat f.blanks) ++ f.ending =
    rw f.joined (sym (append_assoc piece (concat f.blanks) f.ending)) in (
      piece ++ front,
      rest,
      rw (is, append_assoc) refl,
      record {
        blanks = piece ∷ f.blanks;
        ending = f.ending;
        joined = j;
        are_blank = All-cons IsBlank piece f.blanks blank f.are_blank;
        ends = f.ends;
        longest = f.longest;
      },
      rw e at spread,
    )

commented : (offset : ℕ) (bs : List ℕ) (ts : List Token) → CommentAt (offset + 1) bs ts
    → FrontAt offset (37 ∷ bs) ts
unfolding AreSpread
commented offset bs ts (bytes, free, inl (is, none)) = (
  37 ∷ bytes,
  [],
  rw (is, append-nil) refl,
  record {
    blanks = [];
    ending = 37 ∷ bytes;
    joined = refl;
    are_blank = All-nil IsBlank;
    ends = inr (bytes, free, refl, refl);
    longest = tt;
  },
  rw none (All-nil IsWhite),
)
commented offset bs ts (bytes, free, inr (rest, is, front)) =
    let e : offset + 1 + length bytes + 1 ≡ offset + length (37 ∷ (bytes ++ 10 ∷ [])) =
    omega (arith, length-append bytes (10 ∷ [])) in
    let whole : (37 ∷ (bytes ++ 10 ∷ [])) ++ rest ≡ 37 ∷ bs = rw (is, append_assoc) refl in
    rw whole at (more_front offset (37 ∷ (bytes ++ 10 ∷ [])) rest ts (inr (bytes, free, refl)) (rw e at front))

front_step : (offset b : ℕ) (bs : List ℕ) (p w : Bool) → nat_eq b 37 ≡ p → is_white b ≡ w →
    FrontAt (offset + 1) bs (tokens_after_front false false (offset + 1) bs)
    → CommentAt (offset + 1) bs (tokens_after_front false true (offset + 1) bs) →
    FrontAt offset (b ∷ bs) (tokens_after_front false false offset (b ∷ bs))
unfolding tokens_after_front
front_step offset b bs true w is_p is_w front comment =
    let e : b ≡ 37 = eqb-true b 37 is_p in
    rw e (commented offset bs _ comment)
front_step offset b bs false true is_p is_w front comment =
    rw (is_p, is_w) (more_front offset (b ∷ []) bs _ (inl (b, is_w, refl)) front)
front_step offset b bs false false is_p is_w front comment = grind (arith, add-zero, eqb-false, spread_is)

comment_step : (offset b : ℕ) (bs : List ℕ) (l : Bool) → nat_eq b 10 ≡ l →
    FrontAt (offset + 1) bs (tokens_after_front false false (offset + 1) bs)
    → CommentAt (offset + 1) bs (tokens_after_front false true (offset + 1) bs) →
    CommentAt offset (b ∷ bs) (tokens_after_front false true offset (b ∷ bs))
unfolding tokens_after_front
comment_step offset b bs true is_l front comment = grind (arith, eqb-true)
comment_step offset b bs false is_l front (bytes, free, inl (is, none)) =
    rw is_l (
      b ∷ bytes,
      All-cons (λ b. b ≢ 10) b bytes (eqb-false b 10 is_l) free,
      inl (ap (λ (xs : List ℕ). b ∷ xs) is, none),
    )
comment_step offset b bs false is_l front (bytes, free, inr (rest, is, more)) =
    let e : offset + 1 + length bytes + 1 ≡ offset + length (b ∷ bytes) + 1 = omega arith in
    rw is_l (
      b ∷ bytes,
      All-cons (λ b. b ≢ 10) b bytes (eqb-false b 10 is_l) free,
      inr (rest, ap (λ (xs : List ℕ). b ∷ xs) is, rw e at more),
    )

fronts : (text : List ℕ) (offset : ℕ)
    → FrontAt offset text (tokens_after_front false false offset text)
    × CommentAt offset text (tokens_after_front false true offset text)
unfolding tokens_after_front AreSpread
fronts [] offset = (
  (
    [],
    [],
    refl,
    record {
      blanks = [];
      ending = [];
      joined = refl;
      are_blank = All-nil IsBlank;
      ends = inl refl;
      longest = tt;
    },
    All-nil IsWhite,
  ),
  ([], All-nil (λ b. b ≢ 10), inl (refl, refl)),
)
fronts (b ∷ bs) offset = again (fronts bs (offset + 1))
  where
    again : FrontAt (offset + 1) bs (tokens_after_front false false (offset + 1) bs)
        × CommentAt (offset + 1) bs (tokens_after_front false true (offset + 1) bs) →
        FrontAt offset (b ∷ bs) (tokens_after_front false false offset (b ∷ bs))
        × CommentAt offset (b ∷ bs) (tokens_after_front false true offset (b ∷ bs))
    again r = (
      front_step offset b bs (nat_eq b 37) (is_white b) refl refl r.0 r.1,
      comment_step offset b bs (nat_eq b 10) refl r.0 r.1,
    )

pub split_is : (text : List ℕ) → AreTokens text (text_tokens text)
split_is text = grind (arith, fronts text 0)
