-- What levels of groups, the innermost last, have left to print.
use Rattle.std.proofs.Common.{◌≡◌, ◌<◌, ℕ, Bool, List, [], ◌∷◌, ◌++◌, length, map, refl, ap, sym, ◌∙◌, arith, append_assoc, append-nil}
use Rattle.std.proofs.lemmas.List.{nil_from_length}
use Rattle.token_trees.specs.declared.text.Level.{Level}
use Rattle.token_trees.specs.declared.token.TokenTree.{TokenTree}
use Rattle.token_trees.specs.declared.token.TokenTree.TheVariants.{Group as in_group}
use Rattle.token_trees.specs.declared.token.Group.{Group, out-Group}
use Rattle.token_trees.specs.declared.token.Delimiter.{Delimiter}
use Rattle.token_trees.specs.declared.token.Delimiter.TheVariants.{Parenthesis, Brace, Bracket, None}
use Rattle.token_trees.specs.Marked.{IsToken}
use Rattle.token_trees.specs.Brackets.{opening_pieces, closing_pieces, first_pieces}
use Rattle.token_trees.specs.View.{tree, trees, stream}
use Rattle.token_trees.specs.Token.{Tok, word, mark, fixed, group, toks_of}
use Rattle.token_trees.specs.Text.{Piece, enclosed, pieces, pieces_of, spaced, tight_after}
use Rattle.token_trees.proofs.Texts.{inner_pieces_of, spaced_append, tight_after_append}
use Rattle.token_trees.proofs.Views.{is_token, group_of}
use Rattle.token_trees.proofs.Weights.{weight_some, work, work_is, first_weight, group_weight}

abbrev pub level_pieces : Level → List Piece
level_pieces l = pieces_of (trees l.left.now) ++ closing_pieces l.delimiter

abbrev pub pieces_left : List Level → List Piece
pieces_left [] = []
pieces_left (l ∷ ls) = pieces_left ls ++ level_pieces l

abbrev pub lefts : List Level → List (List TokenTree)
lefts = map (λ l. l.left.now)

left_last : (ls : List Level) (l : Level) → pieces_left (ls ++ l ∷ []) ≡ level_pieces l ++ pieces_left ls
left_last [] l = sym (append-nil (level_pieces l))
left_last (k ∷ ls) l = ap (λ xs. xs ++ level_pieces k) (left_last ls l) ∙ append_assoc (level_pieces l) (pieces_left ls) (level_pieces k)

enclosed_pieces : (d : Delimiter) (xs : List Piece) → enclosed d xs ≡ opening_pieces d ++ (xs ++ closing_pieces d)
enclosed_pieces Parenthesis xs = refl
enclosed_pieces Brace xs = refl
enclosed_pieces Bracket xs = refl
enclosed_pieces None xs = sym (append-nil xs)

token_pieces : (t : Tok) → IsToken t → pieces t ≡ first_pieces t
token_pieces (word x s) h = refl
token_pieces (mark c j s) h = refl
token_pieces (fixed l s) h = refl
token_pieces (group d ts s) h = absurd h

-- what was printed, and what is left, make the whole
pub record Says (a : List ℕ) (t : Bool) (whole : List Piece) (b : List ℕ) (s : Bool) (left : List Piece) : Type 0 where
  pub text : b ++ spaced s left ≡ a ++ spaced t whole
  pub tight : tight_after s left ≡ tight_after t whole

pub says_more : (a : List ℕ) (t : Bool) (whole : List Piece) (b : List ℕ) (s : Bool) (left xs rest : List Piece) (c : List ℕ) (u : Bool)
    → Says a t whole b s left → left ≡ xs ++ rest → c ≡ b ++ spaced s xs → u ≡ tight_after s xs → Says a t whole c u rest
says_more a t whole b s left xs rest c u h e k m = record {
  text =
      ap (λ l. l ++ spaced u rest) k ∙ ap (λ v. (b ++ spaced s xs) ++ spaced v rest) m ∙ append_assoc b (spaced s xs) (spaced (tight_after s xs) rest)
      ∙ ap (λ l. b ++ l) (sym (spaced_append s xs rest)) ∙ ap (λ ps. b ++ spaced s ps) (sym e) ∙ h.text;
  tight = ap (λ v. tight_after v rest) m ∙ sym (tight_after_append s xs rest) ∙ ap (tight_after s) (sym e) ∙ h.tight;
}

-- the innermost level goes on behind its first tree
pub behind_tree : (xs ys zs : List Level) (l k : Level) (t : TokenTree) → xs ≡ ys ++ l ∷ [] → l.left.now ≡ t ∷ k.left.now → k.delimiter ≡ l.delimiter → zs ≡ ys ++ k ∷ []
    → pieces_left xs ≡ pieces (tree t) ++ pieces_left zs
behind_tree xs ys zs l k t e f g h =
    let p = pieces (tree t) in
    let q = pieces_of (trees k.left.now) in
    ap pieces_left e ∙ left_last ys l
    ∙ ap (λ ts. (pieces_of (trees ts) ++ closing_pieces l.delimiter) ++ pieces_left ys) f
    ∙ ap (λ d. ((p ++ q) ++ closing_pieces d) ++ pieces_left ys) (sym g)
    ∙ ap (λ ps. ps ++ pieces_left ys) (append_assoc p q (closing_pieces k.delimiter))
    ∙ append_assoc p (level_pieces k) (pieces_left ys)
    ∙ ap (λ ps. p ++ ps) (sym (ap pieces_left h ∙ left_last ys k))

-- a tree that is no group is its first token
pub behind_leaf : (xs ys zs : List Level) (l k : Level) (t : TokenTree) → ((g : Group) → t ≡ in_group g → ⊥) → xs ≡ ys ++ l ∷ [] → l.left.now ≡ t ∷ k.left.now
    → k.delimiter ≡ l.delimiter → zs ≡ ys ++ k ∷ [] → pieces_left xs ≡ first_pieces (tree t) ++ pieces_left zs
behind_leaf xs ys zs l k t n e f g h = behind_tree xs ys zs l k t e f g h ∙ ap (λ ps. ps ++ pieces_left zs) (token_pieces (tree t) (is_token t n))

-- and the trees of a group come first
pub inside_group : (xs ys zs ws : List Level) (l k m : Level) (t : TokenTree) (g : Group) → t ≡ in_group g → (out-Group g).delimiter ≡ m.delimiter → stream (out-Group g).stream ≡ trees m.left.now
    → xs ≡ ys ++ l ∷ [] → l.left.now ≡ t ∷ k.left.now → k.delimiter ≡ l.delimiter → zs ≡ ys ++ k ∷ [] → ws ≡ zs ++ m ∷ [] → pieces_left xs ≡ first_pieces (tree t) ++ pieces_left ws
inside_group xs ys zs ws l k m t g n o p e f h i j =
    let q = opening_pieces m.delimiter in
    let made : tree t ≡ group m.delimiter (toks_of (trees m.left.now)) (out-Group g).span =
    group_of t g m.left.now n p ∙ ap (λ d. group d (toks_of (trees m.left.now)) (out-Group g).span) o in
    behind_tree xs ys zs l k t e f h i
    ∙ ap (λ u. pieces u ++ pieces_left zs) made
    ∙ ap (λ ps. enclosed m.delimiter ps ++ pieces_left zs) (inner_pieces_of (trees m.left.now))
    ∙ ap (λ ps. ps ++ pieces_left zs) (enclosed_pieces m.delimiter (pieces_of (trees m.left.now)))
    ∙ append_assoc q (level_pieces m) (pieces_left zs)
    ∙ ap (λ ps. q ++ ps) (sym (ap pieces_left j ∙ left_last zs m))
    ∙ ap (λ u. first_pieces u ++ pieces_left ws) (sym made)

-- a level that is done
pub behind_level : (xs ys : List Level) (l : Level) → xs ≡ ys ++ l ∷ [] → length l.left.now ≡ 0 → pieces_left xs ≡ closing_pieces l.delimiter ++ pieces_left ys
behind_level xs ys l e f =
    ap pieces_left e ∙ left_last ys l ∙ ap (λ ts. (pieces_of (trees ts) ++ closing_pieces l.delimiter) ++ pieces_left ys) (nil_from_length l.left.now f)

pub tree_less : (xs ys zs : List Level) (l k : Level) (t : TokenTree) → xs ≡ ys ++ l ∷ [] → l.left.now ≡ t ∷ k.left.now → zs ≡ ys ++ k ∷ [] → work (lefts zs) < work (lefts xs)
tree_less xs ys zs l k t e f h =
    omega (arith, work_is (λ l. l.left.now) xs ys l e, work_is (λ l. l.left.now) zs ys k h, first_weight l.left.now k.left.now t f, weight_some (tree t))

pub group_less : (xs ys zs ws : List Level) (l k m : Level) (t : TokenTree) (g : Group) → t ≡ in_group g → stream (out-Group g).stream ≡ trees m.left.now → xs ≡ ys ++ l ∷ [] → l.left.now ≡ t ∷ k.left.now → zs ≡ ys ++ k ∷ []
    → ws ≡ zs ++ m ∷ [] → work (lefts ws) < work (lefts xs)
group_less xs ys zs ws l k m t g n p e f h i =
    omega (arith, work_is (λ l. l.left.now) xs ys l e, work_is (λ l. l.left.now) zs ys k h, work_is (λ l. l.left.now) ws zs m i, first_weight l.left.now k.left.now t f, group_weight t g m.left.now n p)

pub level_less : (xs ys : List Level) (l : Level) → xs ≡ ys ++ l ∷ [] → work (lefts ys) < work (lefts xs)
level_less xs ys l e = omega (arith, work_is (λ l. l.left.now) xs ys l e)
