-- Which derivations name earlier constraints alone
use Rattle.std.specs.Prelude.{ℕ, ◌+◌, ◌<◌, List, map, slice_index_or, Option, Some, None}
use Rattle.vipr_spec.specs.Certificate as is
use Rattle.vipr_spec.specs.Certificate.{NamesEarlier}
use Rattle.vipr_cert.specs.{Items.reason_of, declared.items.Derivation.Derivation}

-- none past the end
abbrev pub reason_in : List Derivation → ℕ → Option is.Reason
reason_in ds k = slice_index_or (map (λ d. Some (reason_of d.reason)) ds) k None

-- so do the first n, if the first has the index `from`
abbrev pub NameEarlierFrom : ℕ → List Derivation → ℕ → Type 0
NameEarlierFrom from ds n = (k : ℕ) → k < n → NamesEarlier (from + k) (reason_in ds k)
