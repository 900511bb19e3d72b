use Rattle.prof_db.specs.Spelling.{text_bytes}
use Rattle.prof_bytes.specs.Number.{word}
use Rattle.prof_db.proofs.Writing.{three_parts}
use Rattle.prof_db.proofs.write.put_file.Goals as goal

pub returns : goal.returns
returns c = three_parts _ _ _ _ (word c.args.f.now.table) (word c.args.f.now.file) (text_bytes c.args.f.now.name) c.in_ok-put_u32.ensures.ok c.in_ok-put_u32-2.ensures.ok c.in_ok-put_text.ensures
