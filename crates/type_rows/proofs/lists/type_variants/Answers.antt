use Rattle.std.proofs.Common.{◌≡◌, [], ◌∷◌, ◌++◌, map, sym, ap, ◌∙◌}
use Rattle.std.proofs.lemmas.List.{append-nil}
use Rattle.schema_defs.specs.declared.InstanceType.TheVariants.{Null, Boolean, Object, Array, Text, Integer}
use Rattle.row_findings.specs.Given.{plain_view, lists_view, named_view}
use Rattle.row_findings.specs.View.{variant_view}
use Rattle.type_rows.proofs.SeveralTypes.{gathered, gathered_one}
use Rattle.type_rows.proofs.lists.type_variants.Goals as goal

pub returns : goal.returns
returns c =
    let k = c.args.keywords.now in
    let p = plain_view k in
    let ls = lists_view k in
    let ns = named_view k in
    sym (
    ap (λ vs. gathered p ls ns (map variant_view vs) (Null ∷ Boolean ∷ Object ∷ Array ∷ Integer ∷ Text ∷ [])) (sym c.new.ensures.items)
    ∙ gathered_one p ls ns (map variant_view c.new.result.items) (map variant_view c.in_ok-nulls.nulls.items) Null (Boolean ∷ Object ∷ Array ∷ Integer ∷ Text ∷ []) c.in_ok-nulls.ensures
    ∙ gathered_one p ls ns (map variant_view c.in_ok-nulls.nulls.items) (map variant_view c.in_ok-booleans.booleans.items) Boolean (Object ∷ Array ∷ Integer ∷ Text ∷ []) c.in_ok-booleans.ensures
    ∙ gathered_one p ls ns (map variant_view c.in_ok-booleans.booleans.items) (map variant_view c.in_ok-objects.objects.items) Object (Array ∷ Integer ∷ Text ∷ []) c.in_ok-objects.ensures
    ∙ gathered_one p ls ns (map variant_view c.in_ok-objects.objects.items) (map variant_view c.in_ok-arrays.arrays.items) Array (Integer ∷ Text ∷ []) c.in_ok-arrays.ensures
    ∙ gathered_one p ls ns (map variant_view c.in_ok-arrays.arrays.items) (map variant_view c.in_ok-integers.integers.items) Integer (Text ∷ []) c.in_ok-integers.ensures
    ∙ gathered_one p ls ns (map variant_view c.in_ok-integers.integers.items) (map variant_view c.in_ok-texts.texts.items) Text [] c.in_ok-texts.ensures
    ∙ append-nil (map variant_view c.in_ok-texts.texts.items)
    )
