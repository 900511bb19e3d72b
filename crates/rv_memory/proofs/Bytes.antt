-- One byte for each address, and the bytes of a word.
use Rattle.std.proofs.Common.{◌≡◌, ℕ, zero, suc, ◌^◌, ◌<◌, ◌≤◌, map, take, slice_index, refl, sym, ◌∙◌, arith}
use Rattle.std.specs.List.{range_with_len}
use Rattle.std.proofs.lemmas.List.{ext_get_or}
use Rattle.std.proofs.lemmas.List.FromFn.{get_or-map-range_with_len, length-map-range_with_len}
use Rattle.prof_bytes.specs.Number.{number_bytes}
use Rattle.rv_memory.specs.AddressSpace.{addresses, each_address}

pub addresses-is : addresses ≡ 2 ^ 32
unfolding addresses
addresses-is = refl

-- the byte at an address
pub byte-each : (f : ℕ → ℕ) (at : ℕ) → at < 2 ^ 32 → slice_index (each_address f) at ≡ f at
unfolding each_address
byte-each f at low = get_or-map-range_with_len f 0 addresses at at 0 (omega (arith, addresses-is)) (omega arith)

-- bytes that are the same at each address
pub each-same : (f g : ℕ → ℕ) → ((at : ℕ) → at < 2 ^ 32 → f at ≡ g at) → each_address f ≡ each_address g
unfolding each_address
each-same f g same =
    ext_get_or 0 (map f (range_with_len 0 addresses)) (map g (range_with_len 0 addresses))
    (length-map-range_with_len f 0 addresses ∙ sym (length-map-range_with_len g 0 addresses))
    (λ i within.
    let inside : i < addresses = omega (arith, length-map-range_with_len f 0 addresses) in
    get_or-map-range_with_len f 0 addresses i i 0 inside (omega arith)
    ∙ same i (omega (arith, addresses-is))
    ∙ sym (get_or-map-range_with_len g 0 addresses i i 0 inside (omega arith)))

-- the lowest bytes of a word
pub lowest : (size number : ℕ) → size ≤ 4 → take size (number_bytes 4 number) ≡ number_bytes size number
lowest zero number few = refl
lowest (suc zero) number few = refl
lowest (suc (suc zero)) number few = refl
lowest (suc (suc (suc zero))) number few = refl
lowest (suc (suc (suc (suc zero)))) number few = refl
lowest (suc (suc (suc (suc (suc n))))) number few = absurd (omega arith)
