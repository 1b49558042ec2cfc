use Rattle.std.proofs.Common.{◌∙◌, sym, ap, subst, string_bytes}
use Rattle.schema_types.specs.DocumentView.{document_view}
use Rattle.enum_defs.specs.Kinds.{kinds_beyond}
use Rattle.enum_kinds.specs.Kept.{AreKept}
use Rattle.enum_kinds.proofs.Kept.{one_kept}
use Rattle.enum_kinds.proofs.asked.Asked.keep.Goals as goal

pub invariant_of-self : goal.invariant_of-self
invariant_of-self c =
    let d = document_view c.args.self.now.document.now in record {
      right =
          one_kept d c.take.result c.or_empty-kept.result c.insert.new.self (string_bytes c.in-Ok.name) c.args.kinds c.in-Ok-insert.ensures.updates c.or_empty-kept.ensures
          (ap (kinds_beyond d) (c.in-Ok.ensures.ok ∙ c.as_str.ensures.value) ∙ c.requires)
          (subst (AreKept d) (sym c.take.ensures.value) c.args.self.now.right);
    }
