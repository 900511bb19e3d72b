-- The entries of .eh_frame adjoin one another, and lie in the section.
use Rattle.std.proofs.Common.{◌≡◌, ℕ, zero, suc, ◌+◌, ◌≤◌, Bool, true, false, cond, List, [], ◌∷◌, length, Option, None, Ok, Err, inl, inr, refl, ap, arith}
use Rattle.std.specs.Prelude.{◌==◌}
use Rattle.prof_bytes.specs.Reading.{left_of}
use Rattle.prof_bytes.specs.Fields.{Input, part_from}
use Rattle.cfi_table.specs.declared.fault.FrameFault.{FrameFault}
use Rattle.cfi_table.specs.declared.extent.Extent.{Extent}
use Rattle.cfi_table.specs.declared.extent.ZeroLength.TheVariants.{EndsList}
use Rattle.cfi_table.specs.Instructions.{Reading}
use Rattle.cfi_table.specs.Entries.{before_others, chained, chain_from}
use Rattle.cfi_table.specs.private.Placed.{IsPlaced}
use Rattle.cfi_table.proofs.Chains.{follows, entry_between, marked}
use Rattle.eh_frame.specs.Entries.{eh_extents}
use Rattle.eh_frame.specs.private.Adjoining.{AreAdjoining}
use Rattle.eh_frame.proofs.Members.{IsIn}
use Rattle.eh_frame.proofs.Offsets.{ends_within}

chain_adjoins : (n : ℕ) (input : Input FrameFault) → AreAdjoining input.at.offset (chain_from EndsList n input).0
unfolding chain_from
chain_adjoins zero input = tt
chain_adjoins (suc n) input = go (length (left_of input.at) == 0) (part_from (marked input)) refl (λ next. chain_adjoins n next)
  where
    sized : (b : Bool) (body rest : Input FrameFault) → part_from (marked input) ≡ Ok (body, rest) → AreAdjoining rest.at.offset (chain_from EndsList n rest).0
        → AreAdjoining input.at.offset (cond b ([], None) (before_others (entry_between input rest) (chain_from EndsList n rest))).0
    sized true body rest is up = tt
    sized false body rest is up = (refl, (follows (marked input) body rest is).order, up)

    linked : (r : Reading (Input FrameFault)) → part_from (marked input) ≡ r → ((next : Input FrameFault) → AreAdjoining next.at.offset (chain_from EndsList n next).0)
        → AreAdjoining input.at.offset (chained EndsList input (λ next. chain_from EndsList n next) r).0
    linked (Err fault) is up = tt
    linked (Ok found) is up = sized (length (left_of found.0.at) == 0) found.0 found.1 is (up found.1)

    go : (b : Bool) (r : Reading (Input FrameFault)) → part_from (marked input) ≡ r → ((next : Input FrameFault) → AreAdjoining next.at.offset (chain_from EndsList n next).0)
        → AreAdjoining input.at.offset (cond b ([], None) (chained EndsList input (λ next. chain_from EndsList n next) r)).0
    go true r is up = tt
    go false r is up = linked r is up

pub adjoin : (section : List ℕ) (found : List Extent × Option FrameFault) → found ≡ eh_extents section → AreAdjoining 0 found.0
adjoin section found is = rw is (chain_adjoins (length section) (record { at = record { whole = section; offset = 0 }; missing = record { offset = 0 } }))

in_order : (start : ℕ) (es : List Extent) (x : Extent) → AreAdjoining start es → IsIn x es → x.offset + 4 ≤ x.end
in_order start [] x adjoin there = absurd there
in_order start (e ∷ es) x adjoin (inl same) =
    let at : e.offset ≡ start = adjoin.0 in
    let order : start + 4 ≤ e.end = adjoin.1 in
    let offset : e.offset ≡ x.offset = ap (λ (y : Extent). y.offset) same in
    let end : e.end ≡ x.end = ap (λ (y : Extent). y.end) same in
    omega arith
in_order start (e ∷ es) x adjoin (inr there) = in_order e.end es x adjoin.2 there

pub eh_placed : (section : List ℕ) (x : Extent) → IsIn x (eh_extents section).0 → IsPlaced section x
eh_placed section x there = record {
  order = in_order 0 (eh_extents section).0 x (adjoin section (eh_extents section) refl) there;
  within = ends_within EndsList (length section) section 0 (record { offset = 0 }) x (omega arith) there;
}
