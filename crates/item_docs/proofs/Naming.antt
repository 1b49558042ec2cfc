-- Names that are wanted and given one after another.
use Rattle.std.proofs.Common.{string_bytes, ◌≡◌, ℕ, List, [], ◌∷◌, ◌++◌, map, codes, false, sym, ap, ◌∙◌, subst, append_assoc, append-nil}
use Rattle.std.proofs.lemmas.List.{map-append}
use Rattle.schema_defs.specs.Schema.{Document}
use Rattle.naming_defs.specs.Names.{Names, item_name}
use Rattle.naming_defs.specs.Good.{is_good_name}
use Rattle.good_names.specs.Given.{Stands, Does, item_given}
use Rattle.good_names.specs.declared.given.GivenNames.{GivenNames}
use Rattle.module_texts.specs.Docs.{Doc, doc_view}
use Rattle.module_texts.specs.declared.docs.ItemDoc.{ItemDoc}
use Rattle.item_docs.specs.Said.{said_where}
use Rattle.item_docs.specs.Docs.{body_in, definition_docs}

abbrev T : List ℕ
T = codes "Type"

-- ---- wanted

-- some are, and the others are left
pub record Wants (s : GivenNames) (left all : Names) : Type 0 where
  pub done : Names
  pub whole : done ++ left ≡ all
  pub wanted : (p : List ℕ) → Stands s p [] done

pub wants_none : (s : GivenNames) (left all : Names) → ((p : List ℕ) → Stands s p [] []) → left ≡ all → Wants s left all
wants_none s left all h e = record { done = []; whole = e; wanted = h }

pub wants_more : (s r : GivenNames) (rest left all : Names) (n : List ℕ) → Wants s rest all → rest ≡ n ∷ left → ((p : List ℕ) (g b : Names) → Stands s p g b → Stands r p g (b ++ n ∷ [])) → Wants r left all
wants_more s r rest left all n w e h = record {
  done = w.done ++ n ∷ [];
  whole = append_assoc w.done (n ∷ []) left ∙ ap (λ z. w.done ++ z) (sym e) ∙ w.whole;
  wanted = λ p. h p [] w.done (w.wanted p);
}

pub wants_all : (s : GivenNames) (left all : Names) → Wants s left all → left ≡ [] → (p : List ℕ) → Stands s p [] all
wants_all s left all w e p = subst (λ (z : Names). Stands s p [] z) (sym (append-nil w.done) ∙ ap (λ z. w.done ++ z) (sym e) ∙ w.whole) (w.wanted p)

-- ---- given

module _ (d : Document) where
  abbrev doc_of : List ℕ → List ℕ → Doc
  doc_of k n = record { item = n; text = said_where n (body_in d k) }

  -- to the definitions before those that are left
  pub record Gives (first now : GivenNames) (docs : List Doc) (left all : Names) : Type 0 where
    pub step : (b t : Names) → Stands first T t b → (u : Names) × Stands now T u b × (docs ++ definition_docs d b u left ≡ definition_docs d b t all)

  pub gives_none : (s : GivenNames) (docs : List ItemDoc) (left all : Names) → docs ≡ [] → left ≡ all → Gives s s (map doc_view docs) left all
  gives_none s docs left all e h = record { step = λ b t st. (t, st, (λ i. map doc_view (e i) ++ definition_docs d b t (h i))) }

  pub gives_more : (s m r : GivenNames) (docs new : List ItemDoc) (x : ItemDoc) (rest left all : Names) (k : List ℕ) → Gives s m (map doc_view docs) rest all → rest ≡ k ∷ left → new ≡ docs ++ x ∷ []
      → Does T m r (string_bytes x.item) (item_given false k) → string_bytes x.text ≡ said_where (string_bytes x.item) (body_in d k) → Gives s r (map doc_view new) left all
  gives_more s m r docs new x rest left all k g e h does said = record {
    step = λ b t st.
        let a = g.step b t st in
        let c = does.step b a.0 a.1 in
        let n = item_name is_good_name b a.0 k in
        let one : doc_view x ≡ doc_of k n = (λ i. record { item = string_bytes x.item; text = said i }) ∙ ap (doc_of k) c.0 in (
          n ∷ a.0,
          c.1,
          ap (λ z. map doc_view z ++ definition_docs d b (n ∷ a.0) left) h
              ∙ ap (λ z. z ++ definition_docs d b (n ∷ a.0) left) (map-append doc_view docs (x ∷ []) ∙ ap (λ z. map doc_view docs ++ z ∷ []) one)
              ∙ append_assoc (map doc_view docs) (doc_of k n ∷ []) (definition_docs d b (n ∷ a.0) left)
              ∙ ap (λ z. map doc_view docs ++ definition_docs d b a.0 z) (sym e)
              ∙ a.2,
        );
  }

  pub gives_all : (s r : GivenNames) (docs : List ItemDoc) (left all : Names) → Gives s r (map doc_view docs) left all → left ≡ [] → (b : Names) → ((p : List ℕ) → Stands s p [] b) → map doc_view docs ≡ definition_docs d b [] all
  gives_all s r docs left all g e b st =
      let a = g.step b [] (st T) in
      sym (append-nil (map doc_view docs)) ∙ ap (λ z. map doc_view docs ++ definition_docs d b a.0 z) (sym e) ∙ a.2
