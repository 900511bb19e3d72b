use Rattle.std.proofs.Common.{◌≡◌, ◌∙◌, ◌<◌, ℕ, true, false, Bool, Option, Some, ◌/◌, get_or, sym, ap, length, arith}
use Rattle.std.proofs.lemmas.Option.{slice_get_within, get_or_from_slice_get, slice_get-get_or}
use Rattle.dwarf_info.proofs.SetFlags.{not_found, found, rank_of, rank_fits}
use Rattle.dwarf_info.proofs.offsets.index_at.Goals as goal

pub returns-then-offset-flags : goal.returns-then-offset-flags
returns-then-offset-flags c = not_found c.args.flags.now c.args.offset (λ e. let l = slice_get_within c.args.flags.now c.args.offset true e in absurd (omega (arith, c.if-offset-flags.true)))

pub returns-then-not-flags-at : goal.returns-then-not-flags-at
returns-then-not-flags-at c =
    not_found c.args.flags.now c.args.offset (λ set.
    let is : get_or c.args.flags.now c.args.offset false ≡ true = get_or_from_slice_get c.args.flags.now c.args.offset true false set in
    let no = c.if-not-flags-at.true in
    let e : false ≡ true = sym no ∙ is in
    absurd cc)

pub overflow_add-result : goal.overflow_add-result
overflow_add-result c =
    let block : c.args.offset / 32 < length c.args.counts.now = (let b = c.requires.blocks in let l = c.if-offset-flags.false in omega arith) in
    let sum = rank_of c.args.flags.now c.args.counts.now (c.args.offset / 32) (get_or c.args.counts.now (c.args.offset / 32) 0) c.count_set.result c.args.offset c.requires
    (slice_get-get_or c.args.counts.now (c.args.offset / 32) 0 block) (omega arith) c.if-offset-flags.false c.count_set.ensures in
    let most = rank_fits c.args.flags.now c.args.offset c.if-offset-flags.false in
    let few = c.requires.few in
    omega arith

pub returns : goal.returns
returns c =
    let block : c.args.offset / 32 < length c.args.counts.now = (let b = c.requires.blocks in let l = c.if-offset-flags.false in omega arith) in
    ap some_of (rank_of c.args.flags.now c.args.counts.now (c.args.offset / 32) (get_or c.args.counts.now (c.args.offset / 32) 0) c.count_set.result c.args.offset c.requires
    (slice_get-get_or c.args.counts.now (c.args.offset / 32) 0 block) (omega arith) c.if-offset-flags.false c.count_set.ensures)
    ∙ found c.args.flags.now c.args.offset (slice_get-get_or c.args.flags.now c.args.offset false c.if-offset-flags.false ∙ ap some_flag c.if-not-flags-at.false)
  where
    some_of : ℕ → Option ℕ
    some_of n = Some n

    some_flag : Bool → Option Bool
    some_flag b = Some b
