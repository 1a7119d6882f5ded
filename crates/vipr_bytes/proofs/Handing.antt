-- A text that is handed to a sink piece by piece
use Rattle.std.proofs.Common.{◌≡◌, ℕ, ◌+◌, ◌-◌, ◌<◌, refl, option_map, Bool, true, false}
use Rattle.std.proofs.Common.{List, [], ◌++◌, length, take, Option, Some, Result, Ok, Err}
use Rattle.std.proofs.Common.{IfSome, IfErr, sym, ap, ◌∙◌, subst, append_assoc, arith}
use Rattle.std.proofs.Math.Seq.{take-append-add}
use Rattle.std.proofs.lemmas.List.{length-append, take-append-le, append-nil}
use Rattle.vipr_bytes.specs.Written.{Wrote, with_all, EndsAtFailure}
use Rattle.vipr_bytes.specs.declared.write.WriteFailed.{WriteFailed}
use Rattle.vipr_bytes.specs.Hands.{Start, start_of, counted, IsEnd, Flows, Stops, Carries_by, Hands}
use Rattle.vipr_bytes.specs.declared.sink_buffer.SinkBuffer.{SinkBuffer}
use Rattle.vipr_bytes.specs.{Output.Output, Output.with_first, Puts.Puts, Sent.Carries, Sent.Sends}
use Rattle.vipr_bytes.specs.{Sent.SendsTo, declared.sink_buffer.ToSink.ToSink}

output : (accepted taken' : List ℕ) (room room' : Option ℕ) → accepted ≡ taken' → room ≡ room'
    → (let o : Output = record { accepted = accepted; room = room } in o)
    ≡ (let o : Output = record { accepted = taken'; room = room' } in o)
output accepted taken' room room' t r = λ i. (let o : Output = record { accepted = t i; room = r i } in o)

room_after : (a b c : ℕ) (room : Option ℕ) → a + b ≡ c
    → option_map (λ r. r - b) (option_map (λ r. r - a) room) ≡ option_map (λ r. r - c) room
room_after a b c room e = grind arith

all_behind : (front bytes : List ℕ) (o : Output)
    → with_all bytes (with_all front o) ≡ with_all (front ++ bytes) o
all_behind front bytes o = output _ _ _ _ (append_assoc o.accepted front bytes)
    (room_after (length front) (length bytes) (length (front ++ bytes)) o.room
    (sym (length-append front bytes)))

first_behind : (front bytes : List ℕ) (k : ℕ) (o : Output)
    → with_first k bytes (with_all front o) ≡ with_first (length front + k) (front ++ bytes) o
first_behind front bytes k o = output _ _ _ _ (append_assoc o.accepted front (take k bytes)
    ∙ ap (λ t. o.accepted ++ t) (sym (take-append-add front bytes k)))
    (room_after (length front) k (length front + k) o.room refl)

-- the answer with so many bytes before
abbrev pub behind : ℕ → Result (Unit {0}) WriteFailed → Result (Unit {0}) WriteFailed
behind n (Ok u) = Ok u
behind n (Err e) = Err (record { accepted = n + e.accepted })

output_more : (start now new : Option Output) (front bytes : List ℕ)
    (r : Result (Unit {0}) WriteFailed) → IfSome start (λ o. Wrote o now front (Ok tt))
    → IfSome now (λ o. Wrote o new bytes r)
    → IfSome start (λ o. Wrote o new (front ++ bytes) (behind (length front) r))
output_more start now new front bytes r first second = grind (arith, length-append, all_behind, first_behind)

failures_more : (start now new : Option ℕ) (n : ℕ) (r : Result (Unit {0}) WriteFailed)
    → IfSome start (λ k. now ≡ Some k) → IfSome now (λ k. EndsAtFailure k new r)
    → IfSome start (λ k. EndsAtFailure k new (behind n r))
failures_more start now new n r first second = grind arith

part_more : (front bytes : List ℕ) (r : Result (Unit {0}) WriteFailed)
    → IfErr r (λ e. e.accepted < length bytes)
    → IfErr (behind (length front) r) (λ e. e.accepted < length (front ++ bytes))
part_more front bytes r p = grind (arith, length-append)

pub end_more : (start now new : Start) (front bytes : List ℕ) (r : Result (Unit {0}) WriteFailed)
    → IsEnd start now front (Ok tt) → IsEnd now new bytes r
    → IsEnd start new (front ++ bytes) (behind (length front) r)
end_more start now new front bytes r first second = record {
  output = output_more start.output now.output new.output front bytes r first.output second.output;
  part = part_more front bytes r second.part;
  failures = failures_more start.failures now.failures new.failures (length front) r first.failures second.failures;
}

end_cut : (start now : Start) (text more : List ℕ) (n : ℕ)
    → IsEnd start now text (Err (record { accepted = n }))
    → IsEnd start now (text ++ more) (Err (record { accepted = n }))
end_cut start now text more n w = grind (arith, length-append, take-append-le)

pub stops_more : (start now : Start) (accepted : ℕ) (text more : List ℕ)
    → Stops start now accepted text → Stops start now accepted (text ++ more)
stops_more start now accepted text more s =
    record { n = s.n; count = s.count; writes = end_cut start now text more s.n s.writes }

-- ---- what is pending
pub carries_more : (failed : Bool) (start now : Start) (accepted : ℕ) (pending text more : List ℕ)
    → Carries_by failed start now accepted pending text
    → Carries_by failed start now accepted (pending ++ more) (text ++ more)
carries_more false start now accepted pending text more c =
    record {
      front = c.front;
      parts = sym (append_assoc c.front pending more)
          ∙ ap (λ t. t ++ more) c.parts;
      count = c.count;
      writes = c.writes;
    }
carries_more true start now accepted pending text more c = stops_more start now accepted text more c

counts : (a b c accepted : ℕ) → a + b ≡ c → accepted ≡ counted a
    → counted (accepted + b) ≡ counted c
counts a b c accepted e t = omega (arith, e, t)

pub flows_on : (start now new : Start) (accepted : ℕ) (pending text : List ℕ)
    → Flows start now accepted pending text → IsEnd now new pending (Ok tt)
    → Flows start new (counted (accepted + length pending)) [] (text ++ [])
flows_on start now new accepted pending text c w = record {
  front = c.front ++ pending;
  parts = ap (λ t. t ++ []) c.parts;
  count = counts (length c.front) (length pending) (length (c.front ++ pending)) accepted
      (sym (length-append c.front pending)) c.count;
  writes = end_more start now new c.front pending (Ok tt) c.writes w;
}

pub flow_stops : (start now new : Start) (accepted : ℕ) (pending text : List ℕ) (e : WriteFailed)
    → Flows start now accepted pending text → IsEnd now new pending (Err e)
    → Stops start new (counted (accepted + e.accepted)) (text ++ [])
flow_stops start now new accepted pending text e c w =
    grind (arith, stops_more start new, end_more start now new c.front pending (Err e) c.writes w)

pub hands_all : {S : Type 0} (f : S → Option Output) (g : S → Option ℕ) (s t : S) (before total : ℕ)
    (bytes : List ℕ) → total ≡ counted (before + length bytes)
    → IfSome (f s) (λ o. Wrote o (f t) bytes (Ok tt))
    → IfSome (g s) (λ n. EndsAtFailure n (g t) (let r : Result (Unit {0}) WriteFailed = Ok tt in r))
    → Hands f g s t before bytes (total, false)
hands_all f g s t before total bytes e wrote ended = grind (arith, flows_on)

pub hands_front : {S : Type 0} (f : S → Option Output) (g : S → Option ℕ) (s t : S)
    (before total : ℕ) (bytes : List ℕ) (failed : WriteFailed)
    → total ≡ counted (before + failed.accepted)
    → IfSome (f s) (λ o. Wrote o (f t) bytes (Err failed)) → failed.accepted < length bytes → IfSome
    (g s) (λ n. EndsAtFailure n (g t) (let r : Result (Unit {0}) WriteFailed = Err failed in r))
    → Hands f g s t before bytes (total, true)
hands_front f g s t before total bytes failed e wrote part ended = record {
  law = λ start text c. subst (λ n. Stops start (start_of f g t) n (text ++ [])) (sym e)
      (flow_stops start (start_of f g s) (start_of f g t) before bytes text failed c
      (record { output = wrote; part = part; failures = ended }));
}

-- ---- what is pending is handed over, or is forgotten
pub sends_handed : {S : Type 0} {f : S → Option Output} {g : S → Option ℕ} {s t : S} (p q : SinkBuffer)
    (bytes : List ℕ) → p.failed ≡ false → bytes ≡ p.bytes.items
    → Hands f g s t p.accepted bytes (q.accepted, q.failed) → q.bytes.items ≡ []
    → Sends f g s t p q []
sends_handed {S} {f} {g} {s} {t} p q bytes flows same hands none = grind arith

pub sends_none : {S : Type 0} {f : S → Option Output} {g : S → Option ℕ} {s : S} (p q : SinkBuffer)
    → p.failed ≡ true → q.failed ≡ p.failed → q.accepted ≡ p.accepted → Sends f g s s p q []
sends_none {S} {f} {g} {s} p q stopped failed accepted = grind (arith, stops_more)

-- bytes that are handed over with nothing before them
pub sends_long : {S : Type 0} {f : S → Option Output} {g : S → Option ℕ} {s t : S} (p q : SinkBuffer)
    (bytes : List ℕ) → p.failed ≡ false → p.bytes.items ≡ []
    → Hands f g s t p.accepted bytes (q.accepted, q.failed) → q.bytes.items ≡ []
    → Sends f g s t p q bytes
sends_long {S} {f} {g} {s} {t} p q bytes flows none hands empty = record {
  law = λ start text c.
      let now = subst (λ b. Carries_by b start (start_of f g s) p.accepted p.bytes.items text) flows c in
      let more = carries_more false start (start_of f g s) p.accepted [] text bytes
      (subst (λ b. Flows start (start_of f g s) p.accepted b text) none now) in
      let after = hands.law start (text ++ bytes) more in
      subst (λ b. Carries_by q.failed start (start_of f g t) q.accepted b (text ++ bytes))
      (sym empty) (subst (λ x. Carries_by q.failed start (start_of f g t) q.accepted [] x)
      (append-nil (text ++ bytes)) after);
}

-- ---- a sink with the buffer before it
module _ {S : Type 0} {f : S → Option Output} {g : S → Option ℕ} where
  nothing : (s : S) (b : SinkBuffer) → Sends f g s s b b []
  nothing s b =
      record {
        law =
            λ start text c.
            subst (λ t. Carries_by b.failed start (start_of f g s) b.accepted b.bytes.items t)
            (sym (append-nil text)) c;
      }

  -- what was put there
  put_to_sink : (o p : ToSink S) (bytes : List ℕ) → Puts (SendsTo f g) o p bytes
      → SendsTo f g o bytes p
  put_to_sink o p bytes m = m.law o [] (refl, refl, nothing o.sink.now o.buffer.now)

  -- the text was put and finished, and the sink is free again
  pub put_and_finished : (o p q : ToSink S) (text : List ℕ) (sink : S) (start : Start)
      (r : Result (Unit {0}) WriteFailed) → Puts (SendsTo f g) o p text
      → Carries start (start_of f g o.sink.now) o.buffer.now []
      → q.sink.ghost_name ≡ p.sink.ghost_name
      → (Carries start (start_of f g p.sink.now) p.buffer.now text
      → IsEnd start (start_of f g q.sink.now) text r)
      → (o.sink.ghost_name ≡ q.sink.ghost_name → sink ≡ q.sink.now)
      → IsEnd start (start_of f g sink) text r
  put_and_finished o p q text sink start r m none same end free = grind (arith, put_to_sink o p text m)
