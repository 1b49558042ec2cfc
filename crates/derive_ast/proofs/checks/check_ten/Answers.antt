use Rattle.std.proofs.Common.{[]}
use Rattle.attr_parts.specs.Diagnostics.{diagnostics}
use Rattle.container_defs.specs.Checks.{check_default_on_tuple, check_remote_generic, check_getter, check_flatten, check_identifier, check_variant_skip_attrs, check_internal_tag_field_name_conflict, check_adjacent_tag_conflict, check_transparent, check_from_and_try_from, checks_told}
use Rattle.derive_ast.specs.Views.{container_view}
use Rattle.derive_ast.proofs.Loops.{always_err, told_on, front_on, front_stays}
use Rattle.derive_ast.proofs.Ten.{left_1, left_2, left_3, left_4, left_5, left_6, left_7, left_8, left_9, none_told, whole_told}
use Rattle.derive_ast.proofs.checks.check_ten.Goals as goal

pub returns-in_err-check_tuple_defaults-clause-err : goal.returns-in_err-check_tuple_defaults-clause-err
returns-in_err-check_tuple_defaults-clause-err c =
    let v = container_view c.args.cont.now in
    let all = checks_told c.args.derive v in
    let t0 = none_told (diagnostics c.args.cx.now) all in
    always_err _ _ (front_on _ _ _ all (check_default_on_tuple v) (left_1 c.args.derive v) t0 c.in_err-check_tuple_defaults.ensures.err)

pub returns-in_err-check_remote-clause-err : goal.returns-in_err-check_remote-clause-err
returns-in_err-check_remote-clause-err c =
    let v = container_view c.args.cont.now in
    let all = checks_told c.args.derive v in
    let t0 = none_told (diagnostics c.args.cx.now) all in
    let t1 = told_on _ _ _ all (check_default_on_tuple v) (left_1 c.args.derive v) t0 c.in_ok-check_tuple_defaults.ensures.ok in
    always_err _ _ (front_stays _ _ _ all _ t1 c.in_err-check_remote.ensures.err)

pub returns-in_err-check_getters-clause-err : goal.returns-in_err-check_getters-clause-err
returns-in_err-check_getters-clause-err c =
    let v = container_view c.args.cont.now in
    let all = checks_told c.args.derive v in
    let t0 = none_told (diagnostics c.args.cx.now) all in
    let t1 = told_on _ _ _ all (check_default_on_tuple v) (left_1 c.args.derive v) t0 c.in_ok-check_tuple_defaults.ensures.ok in
    let t2 = told_on _ _ _ all (check_remote_generic v) (left_2 c.args.derive v) t1 c.in_ok-check_remote.ensures.ok in
    always_err _ _ (front_stays _ _ _ all _ t2 c.in_err-check_getters.ensures.err)

pub returns-in_err-check_flattened-clause-err : goal.returns-in_err-check_flattened-clause-err
returns-in_err-check_flattened-clause-err c =
    let v = container_view c.args.cont.now in
    let all = checks_told c.args.derive v in
    let t0 = none_told (diagnostics c.args.cx.now) all in
    let t1 = told_on _ _ _ all (check_default_on_tuple v) (left_1 c.args.derive v) t0 c.in_ok-check_tuple_defaults.ensures.ok in
    let t2 = told_on _ _ _ all (check_remote_generic v) (left_2 c.args.derive v) t1 c.in_ok-check_remote.ensures.ok in
    let t3 = told_on _ _ _ all (check_getter v) (left_3 c.args.derive v) t2 c.in_ok-check_getters.ensures.ok in
    always_err _ _ (front_on _ _ _ all (check_flatten v) (left_4 c.args.derive v) t3 c.in_err-check_flattened.ensures.err)

pub returns-in_err-check_identifiers-clause-err : goal.returns-in_err-check_identifiers-clause-err
returns-in_err-check_identifiers-clause-err c =
    let v = container_view c.args.cont.now in
    let all = checks_told c.args.derive v in
    let t0 = none_told (diagnostics c.args.cx.now) all in
    let t1 = told_on _ _ _ all (check_default_on_tuple v) (left_1 c.args.derive v) t0 c.in_ok-check_tuple_defaults.ensures.ok in
    let t2 = told_on _ _ _ all (check_remote_generic v) (left_2 c.args.derive v) t1 c.in_ok-check_remote.ensures.ok in
    let t3 = told_on _ _ _ all (check_getter v) (left_3 c.args.derive v) t2 c.in_ok-check_getters.ensures.ok in
    let t4 = told_on _ _ _ all (check_flatten v) (left_4 c.args.derive v) t3 c.in_ok-check_flattened.ensures.ok in
    always_err _ _ (front_on _ _ _ all (check_identifier v) (left_5 c.args.derive v) t4 c.in_err-check_identifiers.ensures.err)

pub returns-in_err-check_skips-clause-err : goal.returns-in_err-check_skips-clause-err
returns-in_err-check_skips-clause-err c =
    let v = container_view c.args.cont.now in
    let all = checks_told c.args.derive v in
    let t0 = none_told (diagnostics c.args.cx.now) all in
    let t1 = told_on _ _ _ all (check_default_on_tuple v) (left_1 c.args.derive v) t0 c.in_ok-check_tuple_defaults.ensures.ok in
    let t2 = told_on _ _ _ all (check_remote_generic v) (left_2 c.args.derive v) t1 c.in_ok-check_remote.ensures.ok in
    let t3 = told_on _ _ _ all (check_getter v) (left_3 c.args.derive v) t2 c.in_ok-check_getters.ensures.ok in
    let t4 = told_on _ _ _ all (check_flatten v) (left_4 c.args.derive v) t3 c.in_ok-check_flattened.ensures.ok in
    let t5 = told_on _ _ _ all (check_identifier v) (left_5 c.args.derive v) t4 c.in_ok-check_identifiers.ensures.ok in
    always_err _ _ (front_on _ _ _ all (check_variant_skip_attrs v) (left_6 c.args.derive v) t5 c.in_err-check_skips.ensures.err)

pub returns-in_err-check_tag_names-clause-err : goal.returns-in_err-check_tag_names-clause-err
returns-in_err-check_tag_names-clause-err c =
    let v = container_view c.args.cont.now in
    let all = checks_told c.args.derive v in
    let t0 = none_told (diagnostics c.args.cx.now) all in
    let t1 = told_on _ _ _ all (check_default_on_tuple v) (left_1 c.args.derive v) t0 c.in_ok-check_tuple_defaults.ensures.ok in
    let t2 = told_on _ _ _ all (check_remote_generic v) (left_2 c.args.derive v) t1 c.in_ok-check_remote.ensures.ok in
    let t3 = told_on _ _ _ all (check_getter v) (left_3 c.args.derive v) t2 c.in_ok-check_getters.ensures.ok in
    let t4 = told_on _ _ _ all (check_flatten v) (left_4 c.args.derive v) t3 c.in_ok-check_flattened.ensures.ok in
    let t5 = told_on _ _ _ all (check_identifier v) (left_5 c.args.derive v) t4 c.in_ok-check_identifiers.ensures.ok in
    let t6 = told_on _ _ _ all (check_variant_skip_attrs v) (left_6 c.args.derive v) t5 c.in_ok-check_skips.ensures.ok in
    always_err _ _ (front_stays _ _ _ all _ t6 c.in_err-check_tag_names.ensures.err)

pub returns-in_err-check_same_tags-clause-err : goal.returns-in_err-check_same_tags-clause-err
returns-in_err-check_same_tags-clause-err c =
    let v = container_view c.args.cont.now in
    let all = checks_told c.args.derive v in
    let t0 = none_told (diagnostics c.args.cx.now) all in
    let t1 = told_on _ _ _ all (check_default_on_tuple v) (left_1 c.args.derive v) t0 c.in_ok-check_tuple_defaults.ensures.ok in
    let t2 = told_on _ _ _ all (check_remote_generic v) (left_2 c.args.derive v) t1 c.in_ok-check_remote.ensures.ok in
    let t3 = told_on _ _ _ all (check_getter v) (left_3 c.args.derive v) t2 c.in_ok-check_getters.ensures.ok in
    let t4 = told_on _ _ _ all (check_flatten v) (left_4 c.args.derive v) t3 c.in_ok-check_flattened.ensures.ok in
    let t5 = told_on _ _ _ all (check_identifier v) (left_5 c.args.derive v) t4 c.in_ok-check_identifiers.ensures.ok in
    let t6 = told_on _ _ _ all (check_variant_skip_attrs v) (left_6 c.args.derive v) t5 c.in_ok-check_skips.ensures.ok in
    let t7 = told_on _ _ _ all (check_internal_tag_field_name_conflict v) (left_7 c.args.derive v) t6 c.in_ok-check_tag_names.ensures.ok in
    always_err _ _ (front_stays _ _ _ all _ t7 c.in_err-check_same_tags.ensures.err)

pub returns-in_err-check_transparency-clause-err : goal.returns-in_err-check_transparency-clause-err
returns-in_err-check_transparency-clause-err c =
    let v = container_view c.args.cont.now in
    let all = checks_told c.args.derive v in
    let t0 = none_told (diagnostics c.args.cx.now) all in
    let t1 = told_on _ _ _ all (check_default_on_tuple v) (left_1 c.args.derive v) t0 c.in_ok-check_tuple_defaults.ensures.ok in
    let t2 = told_on _ _ _ all (check_remote_generic v) (left_2 c.args.derive v) t1 c.in_ok-check_remote.ensures.ok in
    let t3 = told_on _ _ _ all (check_getter v) (left_3 c.args.derive v) t2 c.in_ok-check_getters.ensures.ok in
    let t4 = told_on _ _ _ all (check_flatten v) (left_4 c.args.derive v) t3 c.in_ok-check_flattened.ensures.ok in
    let t5 = told_on _ _ _ all (check_identifier v) (left_5 c.args.derive v) t4 c.in_ok-check_identifiers.ensures.ok in
    let t6 = told_on _ _ _ all (check_variant_skip_attrs v) (left_6 c.args.derive v) t5 c.in_ok-check_skips.ensures.ok in
    let t7 = told_on _ _ _ all (check_internal_tag_field_name_conflict v) (left_7 c.args.derive v) t6 c.in_ok-check_tag_names.ensures.ok in
    let t8 = told_on _ _ _ all (check_adjacent_tag_conflict v) (left_8 c.args.derive v) t7 c.in_ok-check_same_tags.ensures.ok in
    always_err _ _ (front_on _ _ _ all (check_transparent c.args.derive v) (left_9 c.args.derive v) t8 c.in_err-check_transparency.ensures.err)

pub returns-in_err-check_conversions-clause-err : goal.returns-in_err-check_conversions-clause-err
returns-in_err-check_conversions-clause-err c =
    let v = container_view c.args.cont.now in
    let all = checks_told c.args.derive v in
    let t0 = none_told (diagnostics c.args.cx.now) all in
    let t1 = told_on _ _ _ all (check_default_on_tuple v) (left_1 c.args.derive v) t0 c.in_ok-check_tuple_defaults.ensures.ok in
    let t2 = told_on _ _ _ all (check_remote_generic v) (left_2 c.args.derive v) t1 c.in_ok-check_remote.ensures.ok in
    let t3 = told_on _ _ _ all (check_getter v) (left_3 c.args.derive v) t2 c.in_ok-check_getters.ensures.ok in
    let t4 = told_on _ _ _ all (check_flatten v) (left_4 c.args.derive v) t3 c.in_ok-check_flattened.ensures.ok in
    let t5 = told_on _ _ _ all (check_identifier v) (left_5 c.args.derive v) t4 c.in_ok-check_identifiers.ensures.ok in
    let t6 = told_on _ _ _ all (check_variant_skip_attrs v) (left_6 c.args.derive v) t5 c.in_ok-check_skips.ensures.ok in
    let t7 = told_on _ _ _ all (check_internal_tag_field_name_conflict v) (left_7 c.args.derive v) t6 c.in_ok-check_tag_names.ensures.ok in
    let t8 = told_on _ _ _ all (check_adjacent_tag_conflict v) (left_8 c.args.derive v) t7 c.in_ok-check_same_tags.ensures.ok in
    let t9 = told_on _ _ _ all (check_transparent c.args.derive v) (left_9 c.args.derive v) t8 c.in_ok-check_transparency.ensures.ok in
    always_err _ _ (front_stays _ _ _ all _ t9 c.in_err-check_conversions.ensures.err)

pub returns-clause-ok : goal.returns-clause-ok
returns-clause-ok c =
    let v = container_view c.args.cont.now in
    let all = checks_told c.args.derive v in
    let t0 = none_told (diagnostics c.args.cx.now) all in
    let t1 = told_on _ _ _ all (check_default_on_tuple v) (left_1 c.args.derive v) t0 c.in_ok-check_tuple_defaults.ensures.ok in
    let t2 = told_on _ _ _ all (check_remote_generic v) (left_2 c.args.derive v) t1 c.in_ok-check_remote.ensures.ok in
    let t3 = told_on _ _ _ all (check_getter v) (left_3 c.args.derive v) t2 c.in_ok-check_getters.ensures.ok in
    let t4 = told_on _ _ _ all (check_flatten v) (left_4 c.args.derive v) t3 c.in_ok-check_flattened.ensures.ok in
    let t5 = told_on _ _ _ all (check_identifier v) (left_5 c.args.derive v) t4 c.in_ok-check_identifiers.ensures.ok in
    let t6 = told_on _ _ _ all (check_variant_skip_attrs v) (left_6 c.args.derive v) t5 c.in_ok-check_skips.ensures.ok in
    let t7 = told_on _ _ _ all (check_internal_tag_field_name_conflict v) (left_7 c.args.derive v) t6 c.in_ok-check_tag_names.ensures.ok in
    let t8 = told_on _ _ _ all (check_adjacent_tag_conflict v) (left_8 c.args.derive v) t7 c.in_ok-check_same_tags.ensures.ok in
    let t9 = told_on _ _ _ all (check_transparent c.args.derive v) (left_9 c.args.derive v) t8 c.in_ok-check_transparency.ensures.ok in
    let t10 = told_on _ _ _ all (check_from_and_try_from v) [] t9 c.in_ok-check_conversions.ensures.ok in
    whole_told _ _ all t10
