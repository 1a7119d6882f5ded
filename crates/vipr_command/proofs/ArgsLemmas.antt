-- What clap's parse of the line says, for `job`.
use Rattle.std.proofs.Common.{arith, ◌≡◌, ◌∙◌, ap, refl, sym, subst, true≢false, inl, inr, ◌⊎◌}
use Rattle.std.proofs.Common.{List, [], ◌∷◌, Option, Some, None, Bool, true, false, codes, is_some}
use Rattle.std.proofs.Common.{map, option_map, find, if◌then◌else◌, ◌&&◌, take}
use Rattle.std.proofs.lemmas.Slice.Eq.{bytes_eq-Decides}
use Rattle.std.specs.Prelude.{IfErr, IfOk, Result, Ok, Err, IsErrAnd}
use Rattle.clap.specs.Kinds.{FailsBy, HasKind, IsAmong, Kinds, or_else}
use Rattle.clap.specs.declared.error.ErrorKind.TheVariants.{DisplayHelp, InvalidSubcommand}
use Rattle.clap.specs.declared.error.ErrorKind.TheVariants.{InvalidValue}
use Rattle.clap.specs.Simple.{argument_words, built, entered, label_of, names_of, rows_at}
use Rattle.clap.specs.Words.{Row, Shape, Text, fault_of, first_of, has_subcommand, is_simple}
use Rattle.clap.specs.Words.{is_simple_and_free, kind_of, subcommand_name_of, subcommand_of}
use Rattle.clap.specs.Words.{subcommand_rows_of, takes}
use Rattle.clap.specs.declared.parser.matches.ArgMatches.TheViews.{out-ArgMatches}
use Rattle.clap.specs.Walk.{idle, nothing_held, stop_after, answers_to}
use Rattle.clap.specs.declared.parser.matches.ArgMatches.{ArgMatches}
use Rattle.clap.specs.{Faults.walk_fault, Faults.check_fault, Takes.walk_passes}
use Rattle.clap.specs.{declared.error.Error.Error, declared.error.ErrorKind.ErrorKind}
use Rattle.std.specs.Str.{bytes_eq}
use Rattle.vipr_command.proofs.HelpLemmas.{NotHelp, first_none, later_none, met_help, never_met}
use Rattle.vipr_rules.specs.declared.profile.Profile.{Profile}
use Rattle.vipr_command.specs.Args.{are_accepted, asks_for_help, request_of, asked_by, command_word}
use Rattle.vipr_command.specs.Args.{file_named, form_asked, is_set, line, names_profile}
use Rattle.vipr_command.specs.Args.{profile_named, words_fault}
use Rattle.vipr_command.specs.declared.request.Task.TheVariants.{Check, Explain, Show, Tighten}
use Rattle.vipr_command.specs.{declared.request.Job.Job, declared.request.Task.Task}

pub is_simple_line : is_simple line ≡ true
unfolding line
is_simple_line = refl

pub is_free_line : is_simple_and_free line ≡ true
unfolding line
is_free_line = refl

-- the error that a `?` hands on
pub handed_on : {T E : Type 0} (r : Result T E) (e : E) (P : E → Type 0) → IsErrAnd r (λ y. y ≡ e)
    → P e → IfErr r P
handed_on r e P h p = grind arith

required : (rows : List Row) (b : Bool) → check_fault (built line).top rows b ≡ [] → b ≡ true
unfolding line
required rows b h = grind arith

-- of what fails in turn, the last
last_none : (a b c d e : Kinds) → or_else a (or_else b (or_else c (or_else d e))) ≡ [] → e ≡ []
last_none a b c d e h = later_none d e (later_none c _ (later_none b _ (later_none a _ h)))

-- a line with no fault names a subcommand
names_one : (words : List Text) → fault_of line words ≡ []
    → is_some (subcommand_of line words) ≡ true
names_one words h = grind (arith, required, last_none)

enabled : (built line).top.disable_help_subcommand ≡ false
unfolding line
enabled = refl

-- nor does a line with no fault ask for help
never_help : (words : List Text) → fault_of line words ≡ [] → NotHelp
    (stop_after (built line).top.rules (names_of (built line)) (argument_words line words))
never_help words h = never_met (built line).top (names_of (built line)) enabled nothing_held idle 1
    false None (argument_words line words) tt (first_none _ _ h)

is_some-map : {X Y : Type 0} (f : X → Y) (o : Option X) → is_some (option_map f o) ≡ is_some o
is_some-map f o = grind arith

pub never_without : (m : ArgMatches) (words : List Text)
    → subcommand_rows_of m ≡ subcommand_of line words → fault_of line words ≡ []
    → has_subcommand m ≡ true
never_without m words e h = sym (is_some-map _ (out-ArgMatches m).subcommand) ∙ (ap is_some e ∙ names_one words h)

-- the subcommand that was entered, from its parts
parts : {X : Type 0} (f : X → Text × List Row) (o : Option X) (name : Text) (rows : List Row)
    → Some name ≡ option_map (λ x. (f x).0) o
    → Some rows ≡ option_map (λ p. p.1) (option_map f o) → option_map f o ≡ Some (name, rows)
parts f o name rows n r = grind arith

pub entered_is : (m : ArgMatches) (name : Text) (rows : List Row) → Some name ≡ subcommand_name_of m
    → Some rows ≡ option_map (λ p. p.1) (subcommand_rows_of m)
    → subcommand_rows_of m ≡ Some (name, rows)
entered_is m name rows n r = parts _ (out-ArgMatches m).subcommand name rows n r

-- the name is that of one of these, which the word names
abbrev IsNamed : List Shape → Text → Text → Type 0
IsNamed [] word name = ⊥
IsNamed (s ∷ ss) word name = ((s.name ≡ name) × (answers_to word (label_of s) ≡ true)) ⊎ IsNamed ss word name

named_in : (subs : List Shape) (p : Text × List Text) (q : Text × List Row)
    → option_map (λ s. rows_at s p.1) (find (λ s. answers_to p.0 (label_of s)) subs) ≡ Some q
    → IsNamed subs p.0 q.0
named_in [] p q h = cc
named_in (s ∷ ss) p q h = go (answers_to p.0 (label_of s)) refl (named_in ss p q) h
  where
    first : Some (rows_at s p.1) ≡ Some q → s.name ≡ q.0
    first e = let k : rows_at s p.1 ≡ q = cc in ap (λ (x : Text × List Row). x.0) k

    go : (b : Bool) → b ≡ answers_to p.0 (label_of s)
        → (option_map (λ s. rows_at s p.1) (find (λ s. answers_to p.0 (label_of s)) ss) ≡ Some q
        → IsNamed ss p.0 q.0)
        → option_map (λ s. rows_at s p.1)
        (if b then Some s else find (λ s. answers_to p.0 (label_of s)) ss) ≡ Some q
        → IsNamed (s ∷ ss) p.0 q.0
    go b b' rest e = grind arith

-- of the subcommands, `help` is the one that is no task
one_of : (word name : Text) → IsNamed (built line).subs word name
    → bytes_eq word (codes "help") ≡ false → ((t : Task) → command_word t ≡ name → ⊥) → ⊥
unfolding line
one_of word name (inl (h, met)) other none = none Check h
one_of word name (inr (inl (h, met))) other none = none Explain h
one_of word name (inr (inr (inl (h, met)))) other none = none Show h
one_of word name (inr (inr (inr (inl (h, met))))) other none = none Tighten h
one_of word name (inr (inr (inr (inr (inl (h, met)))))) other none =
    let bad = sym (met_help word met) ∙ other in
    true≢false bad
one_of word name (inr (inr (inr (inr (inr h))))) other none = h

stop_named : (stop : Option (Text × List Text)) (q : Text × List Row)
    → entered (built line) stop ≡ Some q → NotHelp stop → ((t : Task) → command_word t ≡ q.0 → ⊥)
    → ⊥
stop_named None q h other none = cc
stop_named (Some p) q h other none = one_of p.0 q.0 (named_in (built line).subs p q h) other none

-- a subcommand that was entered is one of the tasks
pub never_other : (words : List Text) (q : Text × List Row) → fault_of line words ≡ []
    → subcommand_of line words ≡ Some q → ((t : Task) → command_word t ≡ q.0 → ⊥) → ⊥
never_other words q f e none = stop_named _ q e (never_help words f) none

pub failed_on : {T : Type 0} (r : Result T Error) (e : Error) (kinds : Kinds)
    → IsErrAnd r (λ y. y ≡ e) → HasKind kinds e → FailsBy kinds r
failed_on r e kinds h k = grind arith

pub is_asked : (words : List Text) (j : Job) (name : Text) (rows : List Row)
    → subcommand_of line words ≡ Some (name, rows) → command_word j.command ≡ name
    → Some j.profile ≡ profile_named (first_of (codes "profile") rows)
    → j.form ≡ form_asked (first_of (codes "compact") rows)
    → j.is_long ≡ is_set (first_of (codes "long") rows)
    → j.has_sum ≡ is_set (first_of (codes "sum") rows)
    → option_map (λ s. s.now) j.file ≡ file_named (first_of (codes "file") rows)
    → option_map (λ s. s.now) j.out ≡ file_named (first_of (codes "out") rows)
    → asked_by words ≡ Some (request_of j)
is_asked words j name rows e n p g l s f o = rw (e, n, p, g, l, s, f, o) refl

-- ---- the profile

and_first : (a b : Bool) → (a && b) ≡ true → a ≡ true
and_first a b h = grind arith

and_second : (a b : Bool) → (a && b) ≡ true → b ≡ true
and_second a b h = grind arith

pub accepted_by_clap : (words : List Text) → are_accepted words ≡ true → takes line words ≡ true
accepted_by_clap words h = and_first (takes line words) (names_profile words) h

pub profile_accepted : (words : List Text) → are_accepted words ≡ true → names_profile words ≡ true
profile_accepted words h = and_second (takes line words) (names_profile words) h

among_first : (k : ErrorKind) (a b : Kinds) → IsAmong k a → IsAmong k (or_else a b)
among_first k a b h = grind arith

-- a fault of clap's parse is one of the words
pub clap_fault : (words : List Text) (e : Error) → HasKind (fault_of line words) e
    → HasKind (words_fault words) e
clap_fault words e h = grind (arith, among_first)

-- where clap takes the words, their fault is that of the profile
later_fault : (a : Kinds) (b : Bool) → a ≡ []
    → or_else a (if b then [] else InvalidValue ∷ []) ≡ (if b then [] else InvalidValue ∷ [])
later_fault a b h = ap (λ x. or_else x (if b then [] else InvalidValue ∷ [])) h

module _ (words : List Text) (name : Text) (rows : List Row) (e : subcommand_of line words ≡ Some (name, rows)) where
  names_by : (o : Option Profile) → o ≡ profile_named (first_of (codes "profile") rows)
      → names_profile words ≡ is_some o
  names_by o h = rw (e, h) refl

  pub profile_fine : (p : Profile) → Some p ≡ profile_named (first_of (codes "profile") rows)
      → fault_of line words ≡ [] → words_fault words ≡ []
  profile_fine p h f = later_fault (fault_of line words) (names_profile words) f
      ∙ ap (λ b. if b then [] else InvalidValue ∷ []) (names_by (Some p) h)

  module _ (h : None ≡ profile_named (first_of (codes "profile") rows)) where
    pub never_accepted : are_accepted words ≡ true → ⊥
    never_accepted t =
        let a = profile_accepted words t in
        let b = names_by None h in
        let bad : true ≡ false = sym a ∙ b in
        cc

    pub profile_wrong : fault_of line words ≡ [] → (x : Error) → kind_of x ≡ InvalidValue
        → HasKind (words_fault words) x
    profile_wrong f x k = grind arith

-- ---- `help --help`

-- `help` ends the words, whatever follows it
help_fault : (name : Text) (rest : List Text)
    → fault_of line (name ∷ codes "help" ∷ rest) ≡ DisplayHelp ∷ InvalidSubcommand ∷ []
unfolding line walk_fault
help_fault name rest = refl

help_refused : (name : Text) (rest : List Text) → takes line (name ∷ codes "help" ∷ rest) ≡ true → ⊥
unfolding line walk_passes
help_refused name rest h = true≢false (sym (and_second _ _ h))

abbrev pub AsksHelp : List Text → Type 0
AsksHelp words = (name : Text) × (rest : List Text) × (words ≡ name ∷ codes "help" ∷ rest)

pub help_asked : (words : List Text) → asks_for_help words ≡ true → AsksHelp words
help_asked words h = grind (arith, bytes_eq-Decides)

-- so do the first two of such words
pub still_asked : {X : Type 0} (f : X → Text) (words : List X) → AsksHelp (map f words)
    → AsksHelp (map f (take 2 words))
still_asked f words h = grind arith

asked_fault : (words : List Text) → AsksHelp words
    → words_fault words ≡ DisplayHelp ∷ InvalidSubcommand ∷ []
asked_fault words (name, rest, e) = grind (arith, help_fault)

pub asked_kinds : {T : Type 0} (r : Result T Error) (words short : List Text) → AsksHelp words
    → AsksHelp short → FailsBy (words_fault short) r → FailsBy (words_fault words) r
asked_kinds r words short a b h = subst (λ k. FailsBy k r) (asked_fault short b ∙ sym (asked_fault words a)) h

pub asked_ok : {T : Type 0} (r : Result T Error) (short : List Text) (P : T → Type 0)
    → AsksHelp short → FailsBy (words_fault short) r → IfOk r P
asked_ok r short P b h = grind (arith, asked_fault)

pub asked_err : {T : Type 0} (r : Result T Error) (words : List Text) (P : Error → Type 0)
    → AsksHelp words → IfErr r (λ e. are_accepted words ≡ true → P e)
asked_err (Ok x) words P a = tt
asked_err (Err x) words P (name, rest, e) =
    λ t. absurd (help_refused name rest
    (subst (λ ws. takes line ws ≡ true) e (accepted_by_clap words t)))
