-- A value that is read as a document plain at its own count of schemas, examined at that count.
use Rattle.std.proofs.Common.{◌≡◌, ◌⊎◌, inl, inr, ℕ, List, [], Bool, true, false, ◌&&◌, Some, refl, sym, ap, subst, ◌∙◌, true≢false}
use Rattle.serde_json.specs.Data.{Data}
use Rattle.json_value.specs.Value.{Value}
use Rattle.schema_defs.specs.declared.Setting.TheVariants.{Strict}
use Rattle.schema_defs.specs.Texts.{Relations}
use Rattle.schema_defs.specs.Schema.{Document}
use Rattle.schema_defs.specs.Read.{document_of}
use Rattle.schema_defs.specs.Counts.{nodes}
use Rattle.schema_tree.specs.Document.{IsReadAs}
use Rattle.schema_tree.specs.Fault.{FaultD, memory}
use Rattle.schema_tree.specs.Numbers.{are_i64}
use Rattle.plain_defs.specs.Plain.{IsPlain}
use Rattle.typify_run.specs.Examine as examine
use Rattle.typify_run.specs.PlainInputs.{IsPlainInput, IsRefusedPlainly}
use Rattle.typify_run.specs.declared.report.Report.{Report}
use Rattle.model_redescribe.specs.Redescribed.{IsPlainly, IsUntold}

pub same_document : (v : Value) (d e : Document) → document_of Strict v ≡ Some d → document_of Strict v ≡ Some e → d ≡ e
same_document v d e h k = let q : Some d ≡ Some e = sym h ∙ k in cc

pub of_document : (v : Value) (x y d : Document) (n m : ℕ) → IsReadAs Strict v x → y ≡ x → n ≡ nodes y → m ≡ n → document_of Strict v ≡ Some d → m ≡ nodes d
of_document v x y d n m r s h k e = k ∙ h ∙ ap nodes (s ∙ same_document v x d r.read e)

module _ (r : Relations) (depth before after : ℕ) (v : Value) (values : List Data) (count : (d : Document) → document_of Strict v ≡ Some d → depth ≡ nodes d) where
  input : are_i64 values ≡ true → IsPlainly v → IsPlainInput Strict depth v values
  input small p = record { document = p.0; read = p.1; plain = subst (IsPlain p.0) (sym (count p.0 p.1)) p.2; small = small }

  first_part : (a b : Bool) → (a && b) ≡ true → a ≡ true
  first_part true b h = refl
  first_part false b h = h

  pub unnoted : (report : Report) → examine.is_examined Strict r depth v values ≡ true → (IsPlainInput Strict depth v values → report.notes.items ≡ []) → IsPlainly v → report.notes.items ≡ []
  unnoted report e none p = none (input (first_part (are_i64 values) _ e) p)

  pub untold : (f : FaultD) → examine.IsRefusal Strict r depth before after v values f → IsRefusedPlainly Strict r depth before after v values f → IsPlainly v → IsUntold before after values f
  untold f refused plainly p = by (are_i64 values) refl
    where
      told : are_i64 values ≡ false → examine.IsRefusal Strict r depth before after v values f → IsUntold before after values f
      told wide (inl m) = inl m
      told wide (inr (inl t)) = absurd (true≢false (sym t.0 ∙ wide))
      told wide (inr (inr (inl w))) = inr (inr w)
      told wide (inr (inr (inr c))) = absurd (true≢false (sym c.0 ∙ wide))

      failed : (f : FaultD) → (f ≡ memory) ⊎ examine.IsTextsFault Strict r depth before after v values f → IsUntold before after values f
      failed f (inl m) = inl m
      failed f (inr t) = inr (inl (t.1.2.0, t.1.2.2, t.1.2.3))

      by : (b : Bool) → are_i64 values ≡ b → IsUntold before after values f
      by true small = failed f (plainly (input small p))
      by false wide = told wide refused
