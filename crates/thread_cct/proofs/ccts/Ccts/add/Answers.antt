use Rattle.std.proofs.Common.{◌≡◌, ◌+◌, ◌<◌, ◌≤◌, ℕ, Bool, true, false, cond, Ok, length, subst, sym, ap, ◌∙◌, arith}
use Rattle.scope_types.specs.Raw.{Raw}
use Rattle.scope_types.specs.Distinct.{ColumnRaw, samples_in}
use Rattle.scope_types.specs.Limits.{most_frames_in_all, most_samples}
use Rattle.thread_cct.specs.Adding.{count_sample}
use Rattle.thread_cct.proofs.Tables.{Tables, all_for, known, too_much, few_enough, columns_stay, samples_more, within_known, within_new}
use Rattle.thread_cct.proofs.ccts.Ccts.add.Goals as goal

-- the fields, as contracts see them
own_in : (tables now : Tables) (column : ℕ) → tables ≡ now → column < length now → column < length tables
own_in tables now column view own = subst (λ (t : Tables). column < length t) (sym view) own

room_in : (tables now : Tables) → tables ≡ now → samples_in now < most_samples → samples_in tables < most_samples
room_in tables now view room = subst (λ (t : Tables). samples_in t < most_samples) (sym view) room

counted_is : (old new : Tables) (s : ColumnRaw) (found : Bool) → new ≡ cond found (count_sample old s) old → found ≡ true → new ≡ count_sample old s
counted_is old new s found counted there = counted ∙ ap (λ (b : Bool). cond b (count_sample old s) old) there

stays : (old new : Tables) (s : ColumnRaw) (found : Bool) → new ≡ cond found (count_sample old s) old → found ≡ false → new ≡ old
stays old new s found counted absent = counted ∙ ap (λ (b : Bool). cond b (count_sample old s) old) absent

put_is : (old again new : Tables) (column : ℕ) (raw copy : Raw) → again ≡ old → copy ≡ raw → new ≡ count_sample again (record { column = column; raw = copy }) → new ≡ count_sample old (record { column = column; raw = raw })
put_is old again new column raw copy same is put =
    put ∙ ap (λ (t : Tables). count_sample t (record { column = column; raw = copy })) same ∙ ap (λ (r : Raw). count_sample old (record { column = column; raw = r })) is

pub invariant_of-self : goal.invariant_of-self
invariant_of-self c =
    let tables : Tables = c.self.inside.tables.items in
    let s : ColumnRaw = record { column = c.args.column; raw = c.args.raw.now } in
    within_known tables _ s _ (own_in tables _ c.args.column c.self.view_is c.requires.column) c.self.invariant (room_in tables _ c.self.view_is c.requires.few) (sym c.count_again.ensures.found ∙ c.if-count_again.true)
    (counted_is tables _ s _ c.count_again.ensures.counted c.if-count_again.true)

pub returns-then-count_again-clause-columns : goal.returns-then-count_again-clause-columns
returns-then-count_again-clause-columns c =
    let tables : Tables = c.self.inside.tables.items in
    let s : ColumnRaw = record { column = c.args.column; raw = c.args.raw.now } in
    columns_stay tables _ s (counted_is tables _ s _ c.count_again.ensures.counted c.if-count_again.true) ∙ ap (λ (t : Tables). length t) c.self.view_is

pub returns-then-count_again-clause-samples : goal.returns-then-count_again-clause-samples
returns-then-count_again-clause-samples c =
    let tables : Tables = c.self.inside.tables.items in
    let s : ColumnRaw = record { column = c.args.column; raw = c.args.raw.now } in
    samples_more tables _ s (own_in tables _ c.args.column c.self.view_is c.requires.column) (counted_is tables _ s _ c.count_again.ensures.counted c.if-count_again.true) ∙ ap (λ (t : Tables). samples_in t + 1) c.self.view_is

pub returns-then-count_again-clause-all : goal.returns-then-count_again-clause-all
returns-then-count_again-clause-all c samples is =
    let tables : Tables = c.self.inside.tables.items in
    let s : ColumnRaw = record { column = c.args.column; raw = c.args.raw.now } in
    let given = known tables s (sym c.count_again.ensures.found ∙ c.if-count_again.true) ∙ ap Ok (sym (counted_is tables _ s _ c.count_again.ensures.counted c.if-count_again.true)) in
    all_for tables c.args.self.now s c.self.inside.frames _ c.self.view_is c.requires.column c.self.invariant given samples is

pub returns-then-frames-from-clause-all : goal.returns-then-frames-from-clause-all
returns-then-frames-from-clause-all c samples is =
    let tables : Tables = c.self.inside.tables.items in
    let s : ColumnRaw = record { column = c.args.column; raw = c.args.raw.now } in
    let new = sym c.count_again.ensures.found ∙ c.if-count_again.false in
    let many : most_frames_in_all < c.self.inside.frames + length c.frames.result.now = (let test = c.if-frames-from.true in omega (arith, test)) in
    let given = too_much tables s c.self.inside.frames (length c.frames.result.now) c.self.invariant.is new (ap length c.frames.ensures.frames) many in
    all_for tables c.args.self.now s c.self.inside.frames _ c.self.view_is c.requires.column c.self.invariant given samples is

pub invariant_of-self-2 : goal.invariant_of-self-2
invariant_of-self-2 c =
    let tables : Tables = c.self.inside.tables.items in
    let s : ColumnRaw = record { column = c.args.column; raw = c.args.raw.now } in
    let same = stays tables _ s _ c.count_again.ensures.counted c.if-count_again.false in
    let fits : c.self.inside.frames + length c.frames.result.now ≤ most_frames_in_all = (let test = c.if-frames-from.false in omega (arith, test)) in
    within_new tables _ s c.self.inside.frames (length c.frames.result.now) (own_in tables _ c.args.column c.self.view_is c.requires.column) c.self.invariant (room_in tables _ c.self.view_is c.requires.few)
    (sym c.count_again.ensures.found ∙ c.if-count_again.false) c.frames.ensures.count.some (ap length c.frames.ensures.frames) fits
    (put_is tables _ _ c.args.column c.args.raw.now _ same c.in_ok-path.ensures c.in_ok-put_path.ensures.ok)

pub returns-clause-columns : goal.returns-clause-columns
returns-clause-columns c =
    let tables : Tables = c.self.inside.tables.items in
    let s : ColumnRaw = record { column = c.args.column; raw = c.args.raw.now } in
    let same = stays tables _ s _ c.count_again.ensures.counted c.if-count_again.false in
    columns_stay tables _ s (put_is tables _ _ c.args.column c.args.raw.now _ same c.in_ok-path.ensures c.in_ok-put_path.ensures.ok) ∙ ap (λ (t : Tables). length t) c.self.view_is

pub returns-clause-samples : goal.returns-clause-samples
returns-clause-samples c =
    let tables : Tables = c.self.inside.tables.items in
    let s : ColumnRaw = record { column = c.args.column; raw = c.args.raw.now } in
    let same = stays tables _ s _ c.count_again.ensures.counted c.if-count_again.false in
    samples_more tables _ s (own_in tables _ c.args.column c.self.view_is c.requires.column) (put_is tables _ _ c.args.column c.args.raw.now _ same c.in_ok-path.ensures c.in_ok-put_path.ensures.ok)
    ∙ ap (λ (t : Tables). samples_in t + 1) c.self.view_is

pub returns-clause-all : goal.returns-clause-all
returns-clause-all c samples is =
    let tables : Tables = c.self.inside.tables.items in
    let s : ColumnRaw = record { column = c.args.column; raw = c.args.raw.now } in
    let same = stays tables _ s _ c.count_again.ensures.counted c.if-count_again.false in
    let fits : c.self.inside.frames + length c.frames.result.now ≤ most_frames_in_all = (let test = c.if-frames-from.false in omega (arith, test)) in
    let given =
    few_enough tables s c.self.inside.frames (length c.frames.result.now) c.self.invariant.is (sym c.count_again.ensures.found ∙ c.if-count_again.false) (ap length c.frames.ensures.frames) fits
    ∙ ap Ok (sym (put_is tables _ _ c.args.column c.args.raw.now _ same c.in_ok-path.ensures c.in_ok-put_path.ensures.ok)) in
    all_for tables c.args.self.now s c.self.inside.frames _ c.self.view_is c.requires.column c.self.invariant given samples is
