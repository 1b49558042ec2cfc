-- What is told of a document doesn't depend on the setting under which it is read.
use Rattle.std.proofs.Common.{◌≡◌, [], ◌∷◌, List, Option, Some, None, option_map, refl, sym, subst, ◌∙◌}
use Rattle.json_value.specs.Value.{Value}
use Rattle.schema_defs.specs.declared.Setting.{Setting}
use Rattle.schema_defs.specs.declared.Setting.TheVariants.{Strict}
use Rattle.schema_defs.specs.Location.{Location}
use Rattle.schema_defs.specs.Schema.{Document}
use Rattle.schema_defs.specs.Read.{document_of, under}
use Rattle.schema_defs.specs.Walks.{IsGuarded, IsLoop}
use Rattle.schema_defs.proofs.Stand.{some_same, none_is_not}
use Rattle.schema_defs.proofs.Unknown.{settings_are_kept}
use Rattle.schema_defs.proofs.Settings.{leads_with, walks_know_no_setting}
use Rattle.schema_guards.specs.Targets.{BeginsFirst}
use Rattle.schema_tree.specs.Document.{IsReadable, IsReadAs, HasFault}
use Rattle.schema_tree.specs.Fault.{unguarded}

-- the value is a document of the strict setting, which is this one under its own
record ReadStrictly (setting : Setting) (v : Value) (d : Document) : Type 0 where
  document : Document
  read : document_of Strict v ≡ Some document
  same : under setting document ≡ d

strictly : (setting : Setting) (v : Value) (d : Document) → document_of setting v ≡ Some d → ReadStrictly setting v d
strictly setting v d h = by_document (document_of Strict v) refl (sym (settings_are_kept setting v) ∙ h)
  where
    by_document : (o : Option Document) → document_of Strict v ≡ o → option_map (under setting) o ≡ Some d → ReadStrictly setting v d
    by_document None e g = absurd (none_is_not d g)
    by_document (Some x) e g = record { document = x; read = e; same = some_same (under setting x) d g }

begins_without : (setting : Setting) (d : Document) (walk : List Location) → BeginsFirst (under setting d) walk → BeginsFirst d walk
begins_without setting d [] h = h
begins_without setting d (l ∷ ls) h = (h.0, h.1, h.2, λ k below w. h.3 k below (leads_with setting d _ _ w))

-- a walk round in the document that is read is told of the value
pub loop_is_told : (setting : Setting) (v : Value) (d : Document) (walk : List Location) → IsReadable v → document_of setting v ≡ Some d → IsLoop d walk → BeginsFirst d walk → HasFault v (unguarded walk)
loop_is_told setting v d walk r e l f =
    let s = strictly setting v d e in
    let goes_round = ((walks_know_no_setting setting s.document).loops walk).0 (subst (λ x. IsLoop x walk) (sym s.same) l) in
    (r, (s.document, s.read, goes_round, begins_without setting s.document walk (subst (λ x. BeginsFirst x walk) (sym s.same) f)))

-- what is read under one setting is read strictly
pub read_strictly : (setting : Setting) (v : Value) (d : Document) → IsReadAs setting v d → (e : Document) × IsReadAs Strict v e
read_strictly setting v d h =
    let s = strictly setting v d h.read in (
      s.document,
      record {
        readable = h.readable;
        read = s.read;
        guarded = (walks_know_no_setting setting s.document).guarded.0 (subst IsGuarded (sym s.same) h.guarded);
      },
    )
