use Rattle.std.proofs.Common.{◌<◌, ◌^◌, List, Vec, Global, subst, arith}
use Rattle.prof_bytes.specs.Outcome.{GivesFrom}
use Rattle.scope_types.specs.Columns.{columns_of}
use Rattle.prof_db.specs.declared.raw.RawEntry.{RawEntry}
use Rattle.prof_db.specs.Fields.{DbRead}
use Rattle.prof_db.proofs.Saturated.{saturated}
use Rattle.prof_db.proofs.layout.read_columns.Goals as goal

pub returns : goal.returns
returns c =
    let fits = c.left-left.type_inv in
    let small : c.left-left.result < 2 ^ 64 = omega (arith, fits) in
    subst (λ (wanted : DbRead (List RawEntry)). GivesFrom (λ (v : Vec RawEntry Global). v.items) c.read_lists.result c.read_lists.new.cursor wanted)
    (saturated (columns_of c.args.events c.args.runs.now) c.columns_of-columns.result c.left-left.result c.min.result c.args.cursor.now c.columns_of-columns.ensures c.min.ensures c.left-left.ensures small)
    c.read_lists.ensures
