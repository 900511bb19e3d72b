-- The blocks of a translation, one after the other, are its entries.
use Rattle.std.proofs.Common.{◌≡◌, ℕ, ◌+◌, ◌-◌, ◌*◌, ◌/◌, ◌%◌, ◌≤◌, ◌<◌, ◌^◌, List, [], ◌∷◌, ◌++◌, length, length-append, length-drop, take, drop, map, Result, Ok, inl, inr, refl, sym, ap, subst, ◌∙◌, append_assoc, arith, suc, Err}
use Rattle.prof_bytes.specs.Outcome.{◌>>=◌, viewed}
use Rattle.std.specs.Prelude.{replicate, All}
use Rattle.std.specs.List.{flat_map}
use Rattle.std.proofs.lemmas.List.{length-take, length-replicate, drop-take}
use Rattle.std.proofs.Math.Seq.{take-append_seam}
use Rattle.byteorder.specs.Numbers.{little_from-bytes}
use Rattle.prof_bytes.specs.Number.{number_bytes, number_in, IsBytes}
use Rattle.prof_bytes.specs.Reading.{left_of}
use Rattle.cfi_table.specs.declared.fault.FrameFault.{FrameFault}
use Rattle.cfi_table.specs.declared.extent.Extent.{Extent}
use Rattle.cfi_table.specs.Entries.{body_of}
use Rattle.cfi_table.specs.Frames.{all_ok, size_of}
use Rattle.cfi_table.specs.private.Placed.{IsPlaced}
use Rattle.eh_frame.specs.Entries.{EhEntry, EhContent, PassedOver, Common, Description, entry_content, entry_with, entry_of}
use Rattle.eh_frame.specs.Translation.{encoded, cie_head, fde_head, translated_offset, entry_body, aligned, with_length, block_with, block_of}
use Rattle.eh_frame.specs.private.Adjoining.{AreAdjoining}
use Rattle.eh_frame.proofs.Described.{AllFacts, FitsIn, content_facts}
use Rattle.prof_bytes.proofs.Outcomes.{bind_ok, ok_same}
use Rattle.cfi_table.proofs.AllOk.{ok_cons, given}
use Rattle.eh_frame.proofs.Members.{IsIn, ok_of}
use Rattle.eh_frame.proofs.Offsets.{Sized, Chain, chain_end, chain_over, chain_on, chain_moved, chain_zeros, drop_behind}

-- ---- a block at an offset

pub record Block (section : List ℕ) (p size : ℕ) (body rest : List ℕ) : Type 0 where
  pub sized : Sized section p
  pub size_is : sized.size ≡ length (aligned body)
  pub zeros : ℕ
  pub there : drop (p + 4) section ≡ aligned body ++ (replicate (4 * zeros) 0 ++ rest)
  pub room : 4 + length (aligned body) + 4 * zeros ≡ 8 * size

padded_length : (body : List ℕ) → length (aligned body) ≡ length body + (4 - length body % 4) % 4
padded_length body = length-append body (replicate ((4 - length body % 4) % 4) 0) ∙ ap (λ (n : ℕ). length body + n) (length-replicate ((4 - length body % 4) % 4) 0)

by_fours : (n size : ℕ) → n + 7 ≤ 8 * size → 4 * ((8 * size - (4 + (n + (4 - n % 4) % 4))) / 4) ≡ 8 * size - (4 + (n + (4 - n % 4) % 4))
by_fours n size fits = omega arith

fills : (long left words size : ℕ) → 4 * words ≡ left → 4 + long + left ≡ 8 * size → 4 + long + 4 * words ≡ 8 * size
fills long left words size a b = omega arith

pub block_at : (section : List ℕ) (p size : ℕ) (body rest : List ℕ) → length section < 2 ^ 31 → length body + 7 ≤ 8 * size → drop p section ≡ block_with size body ++ rest → Block section p size body rest
block_at section p size body rest small fits is = record {
  sized = record { size = length (aligned body); is = value; free = (let less = few in omega arith); within = (let whole = count in omega arith) };
  size_is = refl;
  zeros = (8 * size - length (with_length (aligned body))) / 4;
  there = behind;
  room = fills (length (aligned body)) (8 * size - length (with_length (aligned body))) ((8 * size - length (with_length (aligned body))) / 4) size fours (let a = framed in let b = long in omega arith);
}
  where
    long : length (aligned body) ≡ length body + (4 - length body % 4) % 4
    long = padded_length body

    framed : length (with_length (aligned body)) ≡ 4 + length (aligned body)
    framed = length-append (number_bytes 4 (length (aligned body))) (aligned body)

    fours : 4 * ((8 * size - length (with_length (aligned body))) / 4) ≡ 8 * size - length (with_length (aligned body))
    fours = ap (λ (n : ℕ). 4 * ((8 * size - n) / 4)) (framed ∙ ap (λ (n : ℕ). 4 + n) long) ∙ by_fours (length body) size fits ∙ sym (ap (λ (n : ℕ). 8 * size - n) (framed ∙ ap (λ (n : ℕ). 4 + n) long))

    after : List ℕ
    after = aligned body ++ (replicate (8 * size - length (with_length (aligned body))) 0 ++ rest)

    here : drop p section ≡ number_bytes 4 (length (aligned body)) ++ (aligned body ++ (replicate (8 * size - length (with_length (aligned body))) 0 ++ rest))
    here =
        is
        ∙ append_assoc (with_length (aligned body)) (replicate (8 * size - length (with_length (aligned body))) 0) rest
        ∙ append_assoc (number_bytes 4 (length (aligned body))) (aligned body) (replicate (8 * size - length (with_length (aligned body))) 0 ++ rest)

    count : length (drop p section) ≡ 4 + (length (aligned body) + length (replicate (8 * size - length (with_length (aligned body))) 0 ++ rest))
    count =
        ap (λ (xs : List ℕ). length xs) here
        ∙ length-append (number_bytes 4 (length (aligned body))) (aligned body ++ (replicate (8 * size - length (with_length (aligned body))) 0 ++ rest))
        ∙ ap (λ (n : ℕ). 4 + n) (length-append (aligned body) (replicate (8 * size - length (with_length (aligned body))) 0 ++ rest))

    few : length (aligned body) < 2 ^ 31
    few = let c = count in omega (arith, length-drop p section)

    value : number_in 4 (drop p section) ≡ length (aligned body)
    value =
        let n : ℕ = length (aligned body) in
        let less = few in
        ap (λ (xs : List ℕ). number_in 4 xs) here
        ∙ little_from-bytes 4 0 (length (aligned body)) (aligned body ++ (replicate (8 * size - length (with_length (aligned body))) 0 ++ rest))
        ∙ (omega arith)

    behind : drop (p + 4) section ≡ aligned body ++ (replicate (4 * ((8 * size - length (with_length (aligned body))) / 4)) 0 ++ rest)
    behind =
        drop_behind section p (number_bytes 4 (length (aligned body))) (aligned body ++ (replicate (8 * size - length (with_length (aligned body))) 0 ++ rest)) here
        ∙ ap (λ (n : ℕ). aligned body ++ (replicate n 0 ++ rest)) (sym fours)

-- where the block ends
block_end : (section : List ℕ) (p size : ℕ) (body rest : List ℕ) (b : Block section p size body rest) → drop (p + 4 + length (aligned body)) section ≡ replicate (4 * b.zeros) 0 ++ rest
block_end section p size body rest b = drop_behind section (p + 4) (aligned body) (replicate (4 * b.zeros) 0 ++ rest) b.there

ends_at : (p size long words count : ℕ) → 4 + long + 4 * words ≡ 8 * size → count ≡ 4 * words → p + 8 * size ≡ p + 4 + long + count
ends_at p size long words count a b = omega arith

pub block_behind : (section : List ℕ) (p size : ℕ) (body rest : List ℕ) → Block section p size body rest → drop (p + 8 * size) section ≡ rest
block_behind section p size body rest b =
    ap (λ (n : ℕ). drop n section) (ends_at p size (length (aligned body)) b.zeros (length (replicate (4 * b.zeros) 0)) b.room (length-replicate (4 * b.zeros) 0))
    ∙ drop_behind section (p + 4 + length (aligned body)) (replicate (4 * b.zeros) 0) rest (block_end section p size body rest b)

block_zeros : (section : List ℕ) (p size : ℕ) (body rest : List ℕ) (es : List Extent) (b : Block section p size body rest) → Chain section (p + 8 * size) es → Chain section (p + 4 + b.sized.size) es
block_zeros section p size body rest es b then =
    let room = b.room in
    let same : p + 4 + length (aligned body) ≡ p + 4 + b.sized.size = ap (λ (n : ℕ). p + 4 + n) (sym b.size_is) in
    chain_moved section (p + 4 + length (aligned body)) (p + 4 + b.sized.size) es same
    (chain_zeros b.zeros section (p + 4 + length (aligned body)) es rest (block_end section p size body rest b)
    (chain_moved section (p + 8 * size) (p + 4 + length (aligned body) + 4 * b.zeros) es (omega arith) then))

pub block_over : (section : List ℕ) (p size : ℕ) (body rest : List ℕ) (es : List Extent) → Block section p size body rest → length (aligned body) ≡ 0 → Chain section (p + 8 * size) es → Chain section p es
block_over section p size body rest es b none then = chain_over section p es b.sized (b.size_is ∙ none) (block_zeros section p size body rest es b then)

pub block_on : (section : List ℕ) (p size : ℕ) (body rest : List ℕ) (es : List Extent) → Block section p size body rest → 0 < length (aligned body) → Chain section (p + 8 * size) es
    → Chain section p (record { offset = p; end = p + 4 + length (aligned body) } ∷ es)
block_on section p size body rest es b some then =
    let long = b.size_is in
    let P : ℕ → Type 0 = λ n. Chain section p (record { offset = p; end = p + 4 + n } ∷ es) in
    subst P b.size_is (chain_on section p es b.sized (omega arith) (block_zeros section p size body rest es b then))

-- the entry in it
pub block_body : (section : List ℕ) (p size : ℕ) (body rest : List ℕ) → Block section p size body rest → left_of (body_of section (record { offset = p; end = p + 4 + length (aligned body) })).at ≡ aligned body
block_body section p size body rest b =
    drop-take (p + 4) (length (aligned body)) section
    ∙ ap (λ (xs : List ℕ). take (length (aligned body)) xs) b.there
    ∙ take-append_seam (aligned body) (replicate (4 * b.zeros) 0 ++ rest)

pub block_within : (section : List ℕ) (p size : ℕ) (body rest : List ℕ) → Block section p size body rest → length (take (p + 4 + length (aligned body)) section) ≡ p + 4 + length (aligned body)
block_within section p size body rest b =
    let within = b.sized.within in
    let long = b.size_is in
    omega (arith, length-take (p + 4 + length (aligned body)) section, length-drop p section)

-- ---- an entry's block

abbrev pub translated_extent : ℕ → EhEntry → Extent
translated_extent base entry = record {
  offset = translated_offset base entry.extent.offset;
  end = translated_offset base entry.extent.offset + 4 + length (aligned (entry_body base entry.content));
}

abbrev pub unless_passed : EhContent → Extent → List Extent
unless_passed PassedOver e = []
unless_passed (Common cie own) e = e ∷ []
unless_passed (Description fde) e = e ∷ []

abbrev pub extents_in : ℕ → EhEntry → List Extent
extents_in base entry = unless_passed entry.content (translated_extent base entry)

abbrev pub LiesAt : List ℕ → ℕ → EhEntry → List ℕ → Type 0
LiesAt section base entry rest = Block section (translated_offset base entry.extent.offset) (size_of entry.extent) (entry_body base entry.content) rest

some_padded : (body : List ℕ) → 0 < length body → 0 < length (aligned body)
some_padded body some = let long = padded_length body in omega arith

entry_chain : (section : List ℕ) (base : ℕ) (e : Extent) (content : EhContent) (rest : List ℕ) (es : List Extent) → Block section (translated_offset base e.offset) (size_of e) (entry_body base content) rest → Chain section (translated_offset base e.offset + 8 * size_of e) es
    → Chain section (translated_offset base e.offset) (unless_passed content (record { offset = translated_offset base e.offset; end = translated_offset base e.offset + 4 + length (aligned (entry_body base content)) }) ++ es)
entry_chain section base e PassedOver rest es b then = block_over section (translated_offset base e.offset) (size_of e) [] rest es b refl then
entry_chain section base e (Common cie own) rest es b then =
    block_on section (translated_offset base e.offset) (size_of e) (entry_body base (Common cie own)) rest es b
    (some_padded (entry_body base (Common cie own)) (let long = length-append (cie_head cie.return_address_register) (flat_map encoded own) in omega arith)) then
entry_chain section base e (Description fde) rest es b then =
    block_on section (translated_offset base e.offset) (size_of e) (entry_body base (Description fde)) rest es b
    (some_padded (entry_body base (Description fde)) (let long = length-append (fde_head (translated_offset base fde.cie_offset) fde.initial_location fde.address_range) (flat_map encoded fde.instructions) in omega arith)) then

-- ---- all blocks

-- the entries in the blocks from an offset on, and where each of them lies
pub record Laid (section : List ℕ) (base start : ℕ) (all : List EhEntry) : Type 0 where
  pub chain : Chain section (translated_offset base start) (flat_map (extents_in base) all)
  pub lies : (x : EhEntry) → IsIn x all → (rest : List ℕ) × LiesAt section base x rest

pub blocks_laid : (section : List ℕ) (base start : ℕ) (all : List EhEntry) → length section < 2 ^ 31 → AreAdjoining start (map (λ x. x.extent) all) → ((x : EhEntry) → IsIn x all → FitsIn x.extent x.content)
    → drop (translated_offset base start) section ≡ flat_map (block_of base) all → Laid section base start all
blocks_laid section base start [] small adjoin fit is =
    let none : length (drop (base + 8 * start) section) ≡ 0 = ap (λ (xs : List ℕ). length xs) is in
    record { chain = chain_end section (translated_offset base start) (omega (arith, length-drop (base + 8 * start) section)); lies = λ x there. absurd there }
blocks_laid section base start (x ∷ all) small adjoin fit is = with_first (blocks_laid section base x.extent.end all small adjoin.2 (λ y there. fit y (inr there)) behind)
  where
    same : translated_offset base x.extent.offset ≡ translated_offset base start
    same = ap (translated_offset base) adjoin.0

    b : LiesAt section base x (flat_map (block_of base) all)
    b = block_at section (translated_offset base x.extent.offset) (size_of x.extent) (entry_body base x.content) (flat_map (block_of base) all) small (fit x (inl refl) base) (ap (λ (n : ℕ). drop n section) same ∙ is)

    next : translated_offset base x.extent.offset + 8 * size_of x.extent ≡ translated_offset base x.extent.end
    next =
        let at : x.extent.offset ≡ start = adjoin.0 in
        let order : start + 4 ≤ x.extent.end = adjoin.1 in
        omega arith

    behind : drop (translated_offset base x.extent.end) section ≡ flat_map (block_of base) all
    behind = ap (λ (n : ℕ). drop n section) (sym next) ∙ block_behind section (translated_offset base x.extent.offset) (size_of x.extent) (entry_body base x.content) (flat_map (block_of base) all) b

    there : Laid section base x.extent.end all → (y : EhEntry) → IsIn y (x ∷ all) → (rest : List ℕ) × LiesAt section base y rest
    there more y (inl e) = let P : EhEntry → Type 0 = λ z. (rest : List ℕ) × LiesAt section base z rest in subst P e (flat_map (block_of base) all, b)
    there more y (inr further) = more.lies y further

    with_first : Laid section base x.extent.end all → Laid section base start (x ∷ all)
    with_first more = record {
      chain =
          chain_moved section (translated_offset base x.extent.offset) (translated_offset base start) (flat_map (extents_in base) (x ∷ all)) same
          (entry_chain section base x.extent x.content (flat_map (block_of base) all) (flat_map (extents_in base) all) b
          (chain_moved section (translated_offset base x.extent.end) (translated_offset base x.extent.offset + 8 * size_of x.extent) (flat_map (extents_in base) all) (sym next) more.chain));
      lies = there more;
    }

-- ---- the entries that were read

pub extents_same : (section : List ℕ) (address : ℕ) (extents es : List Extent) (all : List EhEntry) → all_ok (map (entry_of section address extents) es) ≡ Ok all → map (λ x. x.extent) all ≡ es
extents_same section address extents [] all is = ap (λ (xs : List EhEntry). map (λ x. x.extent) xs) (sym (ok_same {F = FrameFault} [] all is))
extents_same section address extents (e ∷ es) all is =
    let parts = ok_cons (entry_of section address extents e) (map (entry_of section address extents) es) all is in
    let content = bind_ok (entry_content section address extents e) (λ c. (let u : Result EhEntry FrameFault = Ok (entry_with e c) in u)) parts.0 parts.2 in
    let first : parts.0.extent ≡ e = ap (λ (x : EhEntry). x.extent) (sym (ok_same {F = FrameFault} (entry_with e content.0) parts.0 content.2)) in
    ap (λ (xs : List EhEntry). map (λ x. x.extent) xs) parts.4
    ∙ ap (λ (x : Extent). x ∷ map (λ (y : EhEntry). y.extent) parts.1) first
    ∙ ap (λ (xs : List Extent). e ∷ xs) (extents_same section address extents es parts.1 parts.3)

pub record WasRead (section : List ℕ) (address : ℕ) (extents : List Extent) (x : EhEntry) : Type 0 where
  pub there : IsIn x.extent extents
  pub content : entry_content section address extents x.extent ≡ Ok x.content

pub was_read : (section : List ℕ) (address : ℕ) (extents : List Extent) (all : List EhEntry) (x : EhEntry) → all_ok (map (entry_of section address extents) extents) ≡ Ok all → IsIn x all → WasRead section address extents x
was_read section address extents all x is there =
    let from = ok_of (entry_of section address extents) extents all x is there in
    let content = bind_ok (entry_content section address extents from.0) (λ c. (let u : Result EhEntry FrameFault = Ok (entry_with from.0 c) in u)) x from.2 in
    let P : EhEntry → Type 0 = λ y. WasRead section address extents y in
    subst P (ok_same {F = FrameFault} (entry_with from.0 content.0) x content.2) (record { there = from.1; content = content.1 })

-- ---- a block has eight times the entry's bytes

block_size : (size : ℕ) (body : List ℕ) → length body + 7 ≤ 8 * size → length (block_with size body) ≡ 8 * size
block_size size body fits =
    let padded = padded_length body in
    let framed : length (with_length (aligned body)) ≡ 4 + length (aligned body) = length-append (number_bytes 4 (length (aligned body))) (aligned body) in
    length-append (with_length (aligned body)) (replicate (8 * size - length (with_length (aligned body))) 0)
    ∙ ap (λ (n : ℕ). length (with_length (aligned body)) + n) (length-replicate (8 * size - length (with_length (aligned body))) 0)
    ∙ omega arith

one_of : {X F : Type 0} (x : X) (xs all : List X) → (let u : Result (List X) F = Ok (x ∷ xs) in u) ≡ Ok all → x ∷ xs ≡ all
one_of x xs all e = cc

blocks_size : (section : List ℕ) (address base : ℕ) (extents : List Extent) (start : ℕ) (es : List Extent) (entries : List EhEntry) → IsBytes section → start ≤ length section → AreAdjoining start es → All (IsPlaced section) es
    → all_ok (map (entry_of section address extents) es) ≡ Ok entries → length (flat_map (block_of base) entries) + 8 * start ≤ 8 * length section
blocks_size section address base extents start [] entries bytes le adjoin placed is = none entries is
  where
    none : (entries : List EhEntry) → (let u : Result (List EhEntry) FrameFault = Ok [] in u) ≡ Ok entries → length (flat_map (block_of base) entries) + 8 * start ≤ 8 * length section
    none [] e = omega arith
    none (x ∷ xs) e = absurd cc
blocks_size section address base extents start (e ∷ es) entries bytes le adjoin placed is =
    first (entry_content section address extents e) (content_facts section address extents e bytes here) is
    (λ xs same. blocks_size section address base extents e.end es xs bytes here.within adjoin.2 (λ k d lt. placed (suc k) d (omega arith)) same)
  where
    here : IsPlaced section e
    here = placed 0 e (omega arith)

    Bound : List EhEntry → Type 0
    Bound all = length (flat_map (block_of base) all) + 8 * start ≤ 8 * length section

    More : Type 0
    More = (xs : List EhEntry) → all_ok (map (entry_of section address extents) es) ≡ Ok xs → length (flat_map (block_of base) xs) + 8 * e.end ≤ 8 * length section

    rest : (content : EhContent) (r : Result (List EhEntry) FrameFault) → FitsIn e content → all_ok (map (entry_of section address extents) es) ≡ r → (r >>= λ xs. (let u : Result (List EhEntry) FrameFault = Ok (entry_with e content ∷ xs) in u)) ≡ Ok entries → More → Bound entries
    rest content (Err fault) fits same is again = absurd cc
    rest content (Ok xs) fits same is again =
        let at : e.offset ≡ start = adjoin.0 in
        let order : start + 4 ≤ e.end = adjoin.1 in
        let within = here.within in
        let more = again xs same in
        let size = block_size (size_of e) (entry_body base content) (fits base) in
        let both = length-append (block_of base (entry_with e content)) (flat_map (block_of base) xs) in
        subst Bound (one_of (entry_with e content) xs entries is) (omega arith)

    first : (r : Result EhContent FrameFault) → AllFacts section address extents e r → ((r >>= λ content. (let u : Result EhEntry FrameFault = Ok (entry_with e content) in u)) >>= λ x. all_ok (map (entry_of section address extents) es) >>= λ xs. (let u : Result (List EhEntry) FrameFault = Ok (x ∷ xs) in u)) ≡ Ok entries → More → Bound entries
    first (Err fault) facts is again = absurd cc
    first (Ok content) facts is again = rest content (all_ok (map (entry_of section address extents) es)) facts.1 refl is again

pub few_bytes : (section : List ℕ) (address base : ℕ) (extents : List Extent) (out : List ℕ) → IsBytes section → AreAdjoining 0 extents → All (IsPlaced section) extents
    → viewed (flat_map (block_of base)) (all_ok (map (entry_of section address extents) extents)) ≡ Ok out → length out ≤ 8 * length section
few_bytes section address base extents out bytes adjoin placed is =
    let g = given (flat_map (block_of base)) (all_ok (map (entry_of section address extents) extents)) out is in
    let bound = blocks_size section address base extents 0 extents g.0 bytes (omega arith) adjoin placed g.1 in
    let same : length (flat_map (block_of base) g.0) ≡ length out = ap (λ (bs : List ℕ). length bs) g.2 in
    omega arith
