-- The words of a number are those that it is put together of.
use Rattle.std.proofs.Common.{◌≡◌, ℕ, ◌+◌, ◌*◌, ◌/◌, ◌%◌, ◌^◌, ◌<◌, ap, ◌∙◌, arith}
use Rattle.std.specs.Int.{w128, cast_signed, cast_unsigned}
use Rattle.std.proofs.lemmas.Int.{of_z-to_z}
use Rattle.vipr_frac.specs.declared.words.Half.TheInside.{Inside as HalfInside}
use Rattle.vipr_frac.specs.declared.words.Wide.TheInside.{Inside as WideInside}
use Rattle.vipr_frac.specs.declared.words.SignedWide.TheInside.{Inside as SignedInside}

half_low : (high low : ℕ) → low < 2 ^ 32 → (high * 2 ^ 32 + low) % 2 ^ 32 ≡ low
half_low high low h = omega arith

half_high : (high low : ℕ) → low < 2 ^ 32 → (high * 2 ^ 32 + low) / 2 ^ 32 ≡ high
half_high high low h = omega arith

abbrev pub half_of : ℕ → HalfInside
half_of n = record { low = n % 2 ^ 32; high = n / 2 ^ 32 }

pub half_is : (h : HalfInside) → h.low < 2 ^ 32 → half_of (h.high * 2 ^ 32 + h.low) ≡ h
half_is h e =
    ap (λ (n : ℕ). record { low = n; high = (h.high * 2 ^ 32 + h.low) / 2 ^ 32 })
    (half_low h.high h.low e) ∙ ap (λ (n : ℕ). record { low = h.low; high = n })
    (half_high h.high h.low e)

wide_low : (high low : ℕ) → low < 2 ^ 64 → (high * 2 ^ 64 + low) % 2 ^ 64 ≡ low
wide_low high low h = omega arith

wide_high : (high low : ℕ) → low < 2 ^ 64 → (high * 2 ^ 64 + low) / 2 ^ 64 ≡ high
wide_high high low h = omega arith

abbrev pub wide_of : ℕ → WideInside
wide_of n = record { low = n % 2 ^ 64; high = n / 2 ^ 64 }

pub wide_is : (w : WideInside) → w.low < 2 ^ 64 → wide_of (w.high * 2 ^ 64 + w.low) ≡ w
wide_is w e =
    ap (λ (n : ℕ). record { low = n; high = (w.high * 2 ^ 64 + w.low) / 2 ^ 64 })
    (wide_low w.high w.low e) ∙ ap (λ (n : ℕ). record { low = w.low; high = n })
    (wide_high w.high w.low e)

pub signed_is : (s : SignedInside) → s.bits < 2 ^ 128
    → record { bits = cast_unsigned w128 (cast_signed w128 s.bits) } ≡ s
signed_is s e = ap (λ (n : ℕ). record { bits = n }) (of_z-to_z w128 s.bits e)
