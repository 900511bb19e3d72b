use Rattle.std.proofs.Common.{◌∷◌, [], length, All, ap, subst, sym, arith}
use Rattle.std.proofs.lemmas.List.{length-append}
use Rattle.std.proofs.lemmas.List.Elements.{All-push}
use Rattle.thread_cct.proofs.Tables.{IsEmpty, Tables}
use Rattle.thread_cct.proofs.ccts.Ccts.keyed.Goals as goal

pub loop-preserved : goal.loop-preserved
loop-preserved c =
    let long = ap (λ (t : Tables). length t) c.in_ok-push.ensures.items in
    let parts = length-append c.loop.tables.items (c.new.result ∷ []) in
    let many = c.loop.invariant.0 in
    (omega (arith, long, parts, many), subst (All IsEmpty) (sym c.in_ok-push.ensures.items) (All-push IsEmpty c.loop.tables.items c.new.result c.loop.invariant.1 c.new.ensures))
