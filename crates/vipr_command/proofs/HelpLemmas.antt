-- No walk over words that are at no fault stops at clap's own subcommand `help`.
use Rattle.std.proofs.Common.{rules, arith, ◌≡◌, refl, sym, ℕ, List, [], ◌∷◌, ◌++◌, Option, Some}
use Rattle.std.proofs.Common.{None, Bool, true, false, codes, if◌then◌else◌, ◌&&◌, ◌||◌, not, fold}
use Rattle.std.proofs.lemmas.Slice.Eq.{bytes_eq-Decides}
use Rattle.std.specs.{Prelude.⊤, Str.bytes_eq}
use Rattle.clap.specs.Faults.{turn_fault, walk_fault, word_fault}
use Rattle.clap.specs.declared.error.ErrorKind.TheVariants.{DisplayHelp, InvalidSubcommand}
use Rattle.clap.specs.Walk.{Held, Names, Step, Text, Waiting, Walk, after_step, answers_to}
use Rattle.clap.specs.Walk.{subcommand, walked, word_met}
use Rattle.clap.specs.{Kinds.Kinds, Kinds.or_else, Simple.Shape}

-- where two tests find no fault, each finds none
pub first_none : (a b : Kinds) → or_else a b ≡ [] → a ≡ []
first_none a b e = grind arith

pub later_none : (a b : Kinds) → or_else a b ≡ [] → b ≡ []
later_none a b e = grind arith

-- a walk that stopped didn't stop at `help`
abbrev pub NotHelp : Option (Text × List Text) → Type 0
NotHelp None = ⊤
NotHelp (Some p) = bytes_eq p.0 (codes "help") ≡ false

-- nor does it stop there by this step
abbrev NoHelp : Step → Type 0
NoHelp (subcommand name) = bytes_eq name (codes "help") ≡ false
NoHelp _ = ⊤

module _ (s : Shape) (names : Names) (enabled : s.disable_help_subcommand ≡ false) where
  asks : (b : Bool)
      → (if b && not s.disable_help_subcommand then DisplayHelp ∷ InvalidSubcommand ∷ [] else []) ≡
      [] → b ≡ false
  asks b e = grind arith

  word_fine : (is_trailing : Bool) (waiting : Waiting) (position : ℕ) (word : Text) (h : Held)
      → word_fault s names is_trailing waiting word h ≡ []
      → NoHelp (word_met s.rules names is_trailing waiting position word h).1
  word_fine is_trailing waiting position word h e = grind arith

  abbrev at : Held → Waiting → ℕ → Bool → Option (Text × List Text) → Walk
  at h waiting position is_trailing stopped =
      record {
        held = h;
        waiting = waiting;
        position = position;
        is_trailing = is_trailing;
        stopped = stopped;
      }

  step_fine : (word : Text) (w : Walk) (h : Held) (x : Step) → NotHelp w.stopped → NoHelp x
      → NotHelp (after_step s.rules word w h x).stopped
  step_fine word w h x fine quiet = grind arith

  pub never_met : (h : Held) (waiting : Waiting) (position : ℕ) (is_trailing : Bool)
      (stopped : Option (Text × List Text)) (words : List Text) → NotHelp stopped
      → walk_fault s names (at h waiting position is_trailing stopped) words ≡ []
      → NotHelp (fold (walked s.rules names) (at h waiting position is_trailing stopped)
      words).stopped
  unfolding walk_fault walked
  never_met h waiting position is_trailing stopped [] fine e = fine
  never_met h waiting position is_trailing (Some p) (word ∷ rest) fine e =
      never_met h waiting position is_trailing (Some (p.0, p.1 ++ word ∷ [])) rest fine e
  never_met h waiting position is_trailing None (word ∷ rest) fine e =
      let before : Walk = at h waiting position is_trailing None in
      let met = word_met s.rules names is_trailing waiting position word h in
      let after = after_step s.rules word before met.0 met.1 in
      let turn : turn_fault s names before word ≡ [] = first_none (turn_fault s names before word) _ e in
      let none : word_fault s names is_trailing waiting word h ≡ [] =
      first_none (word_fault s names is_trailing waiting word h) _ turn in
      never_met after.held after.waiting after.position after.is_trailing after.stopped rest
      (step_fine word before met.0 met.1 tt (word_fine is_trailing waiting position word h none))
      (later_none (turn_fault s names before word) _ e)

-- what `help` answers to is `help`
pub met_help : (word : Text) → answers_to word (codes "help", []) ≡ true
    → bytes_eq word (codes "help") ≡ true
met_help word met = (bytes_eq-Decides word (codes "help")).1
    (sym ((bytes_eq-Decides (codes "help") word).0 (either _ met)))
  where
    either : (b : Bool) → (b || false) ≡ true → b ≡ true
    either true e = refl
    either false e = e
