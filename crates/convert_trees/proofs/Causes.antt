-- The faults of a schema itself: of patterns, of places and of its row, in this order.
use Rattle.std.specs.Prelude.{not, nat_le}
use Rattle.std.specs.List.{list_all}
use Rattle.std.proofs.Common.{◌≡◌, ℕ, ◌<◌, Bool, false, rules, tests, List, [], ◌∷◌, ◌++◌, Option, Some, None, ◌⊎◌, inl, inr, refl, sym, ap, subst, ◌∙◌}
use Rattle.schema_defs.specs.Location.{Location}
use Rattle.schema_defs.specs.Texts.{Relations}
use Rattle.schema_defs.specs.Schema.{Schema, Document}
use Rattle.entry_defs.specs.Entry.{Target}
use Rattle.convert_defs.specs.Row.{Row, refused_row, Finding, plainly, Cause, mix, places, bad_pattern}
use Rattle.convert_defs.specs.Table.{target_of, row_of_target, reference_row}
use Rattle.convert_defs.specs.Faults.{row_faults, fault_if, finding_faults}
use Rattle.row_findings.specs.declared.finding.Cause.{Cause as CodeCause}
use Rattle.row_findings.specs.declared.finding.Cause.TheVariants as causes
use Rattle.row_findings.specs.View.{cause_view}
use Rattle.schema_tree.specs.Fault.{FaultD, memory}
use Rattle.convert_trees.specs.Told.{told_cause, no_memory, RefusesBy, unanswered, by_cause, RowRefuses, without_memory, by_refusal}

pub led : (q : List ℕ) (t : Target) → Some t ≡ target_of q → (r : Relations) (d : Document) (n : ℕ) → row_faults r d n (reference_row (Some q)) ≡ []
led q t e r d n = subst (λ (o : Option Target). row_faults r d n (row_of_target o) ≡ []) e refl

pub not_led : (q : List ℕ) → None ≡ target_of q → reference_row (Some q) ≡ refused_row mix
not_led q e = subst (λ (o : Option Target). row_of_target o ≡ refused_row mix) e refl

pub row_refused : (l : Location) (s : Schema) (w : Row) (c : CodeCause) (f : FaultD) → w ≡ refused_row (cause_view c)
    → (f ≡ memory) ⊎ (f ≡ told_cause l s (plainly (refused_row (cause_view c))) (cause_view c)) → RowRefuses l s w f
row_refused l s w c f e (inl h) = without_memory h
row_refused l s w c f e (inr h) = by_refusal c e h

pub reference_refused : (l : Location) (s : Schema) (q : List ℕ) (f : FaultD) → None ≡ target_of q
    → (f ≡ memory) ⊎ (f ≡ told_cause l s (plainly (refused_row mix)) mix) → RowRefuses l s (reference_row (Some q)) f
reference_refused l s q f e h = row_refused l s (reference_row (Some q)) causes.Mix f (not_led q e) h

-- ---- of the row alone, and of all

same_told : (l : Location) (s : Schema) (fd : Finding) (c : CodeCause) → fd.row ≡ refused_row (cause_view c)
    → told_cause l s (plainly (refused_row (cause_view c))) (cause_view c) ≡ told_cause l s fd (cause_view c)
same_told l s fd causes.Conditional e = refl
same_told l s fd causes.Mix e = refl
same_told l s fd causes.MixedEnum e = refl
same_told l s fd causes.NestedEnum e = refl
same_told l s fd causes.Not e = refl
same_told l s fd causes.Names e = refl
same_told l s fd causes.BadValue e = refl
same_told l s fd causes.Array e = refl

module _ (l : Location) (s : Schema) (fd : Finding) (old new : ℕ) (f : FaultD) where
  pub by_row : (r : Relations) (d : Document) (n : ℕ) → RowRefuses l s fd.row f → RefusesBy l s fd old new (row_faults r d n fd.row) f
  by_row r d n (without_memory h) = unanswered (no_memory h)
  by_row r d n (by_refusal c e h) = by_cause (cause_view c) [] (ap (row_faults r d n) e) (h ∙ same_told l s fd c e)

  pub by_first : (cs ds : List Cause) → RefusesBy l s fd old new cs f → RefusesBy l s fd old new (cs ++ ds) f
  by_first cs ds (unanswered h) = unanswered h
  by_first cs ds (by_cause c more e h) = by_cause c (more ++ ds) (ap (λ cs. cs ++ ds) e) h

  pub by_second : (cs ds : List Cause) → cs ≡ [] → RefusesBy l s fd old new ds f → RefusesBy l s fd old new (cs ++ ds) f
  by_second cs ds e h = subst (λ (cs : List Cause). RefusesBy l s fd old new (cs ++ ds) f) (sym e) h

over : (a b : ℕ) → b < a → fault_if (not (nat_le a b)) places ≡ places ∷ []
over a b h = let t : nat_le a b ≡ false = search (rules, tests) in ap (λ (t : Bool). fault_if (not t) places) t

pub places_refused : (l : Location) (s : Schema) (fd : Finding) (old new : ℕ) (f : FaultD) (a b : ℕ) → b < a → RefusesBy l s fd old new (places ∷ []) f → RefusesBy l s fd old new (fault_if (not (nat_le a b)) places) f
places_refused l s fd old new f a b h k = subst (λ (cs : List Cause). RefusesBy l s fd old new cs f) (sym (over a b h)) k

pub patterns_refused : (l : Location) (s : Schema) (fd : Finding) (old new : ℕ) (f : FaultD) (b : Bool) → false ≡ b → RefusesBy l s fd old new (bad_pattern ∷ []) f → RefusesBy l s fd old new (fault_if (not b) bad_pattern) f
patterns_refused l s fd old new f b e k = subst (λ (b : Bool). RefusesBy l s fd old new (fault_if (not b) bad_pattern) f) e k

pub none_of_three : (xs bs cs : List Cause) → xs ≡ [] → bs ≡ [] → cs ≡ [] → (xs ++ bs) ++ cs ≡ []
none_of_three xs bs cs e g h = ap (λ xs. (xs ++ bs) ++ cs) e ∙ ap (λ bs. bs ++ cs) g ∙ h

module _ (r : Relations) (d : Document) (n : ℕ) (fd : Finding) where
  abbrev pub of_patterns : List Cause
  of_patterns = fault_if (not (list_all r.is_pattern fd.patterns)) bad_pattern

  abbrev pub of_places : List Cause
  of_places = fault_if (not (nat_le fd.places n)) places

  pub all_fine : of_patterns ≡ [] → of_places ≡ [] → row_faults r d n fd.row ≡ [] → finding_faults r d n fd ≡ []
  all_fine e g h = none_of_three of_patterns of_places (row_faults r d n fd.row) e g h

  module _ (l : Location) (s : Schema) (old new : ℕ) (f : FaultD) where
    pub first_refuses : RefusesBy l s fd old new of_patterns f → RefusesBy l s fd old new (finding_faults r d n fd) f
    first_refuses h = by_first l s fd old new f (of_patterns ++ of_places) (row_faults r d n fd.row) (by_first l s fd old new f of_patterns of_places h)

    pub second_refuses : of_patterns ≡ [] → RefusesBy l s fd old new of_places f → RefusesBy l s fd old new (finding_faults r d n fd) f
    second_refuses e h = by_first l s fd old new f (of_patterns ++ of_places) (row_faults r d n fd.row) (by_second l s fd old new f of_patterns of_places e h)

    pub row_refuses : of_patterns ≡ [] → of_places ≡ [] → RowRefuses l s fd.row f → RefusesBy l s fd old new (finding_faults r d n fd) f
    row_refuses e g h =
        by_second l s fd old new f (of_patterns ++ of_places) (row_faults r d n fd.row) (ap (λ cs. cs ++ of_places) e ∙ g) (by_row l s fd old new f r d n h)
