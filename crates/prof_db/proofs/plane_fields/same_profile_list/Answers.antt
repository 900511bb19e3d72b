use Rattle.std.proofs.Common.{rules, ◌≡◌, [], ◌∷◌, length, Err}
use Rattle.std.specs.List.{flat_map}
use Rattle.prof_db.specs.ValueRules.{list_fields, profile_fields, fields_kept, field_of_word}
use Rattle.prof_db.proofs.FieldSteps.{first_differs, gives_both}
use Rattle.prof_db.proofs.plane_fields.same_profile_list.Goals as goal

pub returns-in_err-same_word : goal.returns-in_err-same_word
returns-in_err-same_word c =
    let failed : fields_kept 6 (list_fields profile_fields c.args.entries.now) c.args.cursor.now ≡ Err c.in_err-same_word.field-0.0 =
    first_differs 6 (field_of_word (length c.args.entries.now) ∷ []) (flat_map profile_fields c.args.entries.now) c.args.cursor.now c.in_err-same_word.field-0.0 c.in_err-same_word.ensures in
    search rules

pub returns : goal.returns
returns c =
    gives_both 6 (field_of_word (length c.args.entries.now) ∷ []) (flat_map profile_fields c.args.entries.now) c.args.cursor.now _ _ _ c.in_ok-same_word.ensures c.same_profile_entries.ensures
