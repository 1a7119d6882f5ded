-- Bytes that are handed to a writer piece by piece
use Rattle.std.proofs.Common.{◌≡◌, ℕ, ◌+◌, ◌-◌, ◌<◌, ◌≤◌, option_map, List, ◌++◌}
use Rattle.std.proofs.Common.{length, take, drop, Option, Some, None, Ok, IfSome, sym, ap, ◌∙◌}
use Rattle.std.proofs.Common.{subst, append_assoc, slice_range, arith}
use Rattle.std.proofs.{Math.Seq.take-add, lemmas.List.take_all, lemmas.List.length-drop}
use Rattle.vipr_bytes.specs.Output.{Output, Writes, with_first, failure_of}

-- the writer took the first n bytes, and had room for them
abbrev pub TookFirst : ℕ → List ℕ → Option Output → Output → Type 0
TookFirst n text new o = IfSome o.room (λ room. n ≤ room) × (new ≡ Some (with_first n text o))

-- what is handed next
abbrev pub left_from : ℕ → List ℕ → List ℕ
left_from n text = slice_range text n (length text)

left_is : (n : ℕ) (text : List ℕ) → left_from n text ≡ drop n text
left_is n text = take_all (length text - n) (drop n text) (omega (arith, length-drop n text))

output : (accepted taken' : List ℕ) (room room' : Option ℕ) → accepted ≡ taken' → room ≡ room'
    → Some (let o : Output = record { accepted = accepted; room = room } in o)
    ≡ Some (let o : Output = record { accepted = taken'; room = room' } in o)
output accepted taken' room room' t r = λ i. Some (let o : Output = record { accepted = t i; room = r i } in o)

both : (accepted n : ℕ) (room : Option ℕ) → IfSome room (λ r. accepted ≤ r)
    → IfSome (option_map (λ r. r - accepted) room) (λ r. (n ≤ r) × (0 < r → 0 < n))
    → IfSome room (λ r. accepted + n ≤ r)
both accepted n room before now = grind arith

room_after : (accepted n : ℕ) (room : Option ℕ)
    → option_map (λ r. r - n) (option_map (λ r. r - accepted) room)
    ≡ option_map (λ r. r - (accepted + n)) room
room_after accepted n room = grind arith

pub more_handed : (before now after : Option Output) (text : List ℕ) (accepted n : ℕ)
    → IfSome before (TookFirst accepted text now)
    → IfSome now (λ o. Writes o after (Ok n) (left_from accepted text))
    → IfSome before (TookFirst (accepted + n) text after)
more_handed None now after text accepted n known wrote = tt
more_handed (Some o) now after text accepted n known wrote =
    let w = subst (λ s. IfSome s (λ p. Writes p after (Ok n) (left_from accepted text))) known.1 wrote in (
      both accepted n o.room known.0 w.0,
      w.1
          ∙ output _ _ _ _ (ap (λ bytes. (o.accepted ++ take accepted text) ++ take n bytes)
          (left_is accepted text) ∙ append_assoc o.accepted (take accepted text)
          (take n (drop accepted text))
          ∙ ap (λ bytes. o.accepted ++ bytes) (sym (take-add accepted n text)))
          (room_after accepted n o.room),
    )

-- ---- the writes that failed or took nothing
pub none_failed : (before now after : Option ℕ) (k : ℕ) → 0 < k → IfSome before (λ n. now ≡ Some n)
    → IfSome now (λ n. after ≡ Some (n + failure_of (Ok k))) → IfSome before (λ n. after ≡ Some n)
none_failed before now after k some same counted = grind arith
