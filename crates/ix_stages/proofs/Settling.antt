-- Joining one list of seats, and then another.
use Rattle.std.proofs.Common.{◌≡◌, ℕ, ◌+◌, ◌<◌, false, List, [], ◌∷◌, ◌++◌, map, All, sym, refl, ap, ◌∙◌, subst, arith, append_assoc, append-nil, length-append}
use Rattle.std.proofs.lemmas.List.{map-append}
use Rattle.std.proofs.lemmas.List.Elements.{All-head, All-tail}
use Rattle.crossbeam_queue.specs.Passes.{Pass, view}
use Rattle.ix_stages.specs.declared.item.Item.{Item}
use Rattle.ix_stages.specs.declared.pass_view.PassView.{PassView}
use Rattle.ix_stages.specs.Items.{concat}
use Rattle.ix_stages.specs.PassViews.{after_join, all_put, all_taken}
use Rattle.ix_stages.specs.Settled.{Absorbs, AbsorbsAll, Settles, put_by, taken_by}
use Rattle.ix_stages.specs.Seats.{JobView, SeatView}

-- joining one list of passes and then another is joining both
pub Settles-append : (v : PassView) (xs ys : List PassView) (w u : PassView) → Settles v xs w → Settles w ys u → Settles v (xs ++ ys) u
Settles-append v xs ys w u a b = record {
  live = b.live ∙ a.live;
  parts = (let p = a.parts in let q = b.parts in let l = length-append xs ys in omega (arith, p, q, l));
  course = (b.course.0 ∙ a.course.0, b.course.1 ∙ a.course.1);
  own = (b.own.0 ∙ a.own.0, b.own.1 ∙ a.own.1);
  puts = b.puts ∙ (ap (λ l. l ++ map (λ (u : PassView). u.put) ys) a.puts ∙ (append_assoc v.puts (map (λ u. u.put) xs) (map (λ u. u.put) ys) ∙ ap (λ l. v.puts ++ l) (sym (map-append (λ (u : PassView). u.put) xs ys))));
  takens = b.takens ∙ (ap (λ l. l ++ map (λ (u : PassView). u.taken) ys) a.takens ∙ (append_assoc v.takens (map (λ u. u.taken) xs) (map (λ u. u.taken) ys) ∙ ap (λ l. v.takens ++ l) (sym (map-append (λ (u : PassView). u.taken) xs ys))));
}

-- joining one pass
settles_one : (w u : PassView) → u.parts ≡ 1 → Settles w (u ∷ []) (after_join w u)
settles_one w u one = record { live = refl; parts = ap (λ (n : ℕ). w.parts + n) one; course = (refl, refl); own = (refl, refl); puts = refl; takens = refl }

-- one seat more
settles_more : {S : Type 0} (f : S → PassView) (v w w' : PassView) (xs : List S) (x : S) → (f x).parts ≡ 1 → w' ≡ after_join w (f x) → Settles v (map f xs) w → Settles v (map f (xs ++ x ∷ [])) w'
settles_more f v w w' xs x one is h =
    subst (λ (p : List PassView × PassView). Settles v p.0 p.1) (λ i. (sym (map-append f xs (x ∷ [])) i, sym is i)) (Settles-append v (map f xs) (f x ∷ []) w (after_join w (f x)) h (settles_one w (f x) one))

-- one pass more was joined
pub absorbs_more : {S : Type 0} (f : S → PassView) (old then now : Pass Item PassView) (xs : List S) (x : S) → (f x).parts ≡ 1 → AbsorbsAll old (map f xs) then → Absorbs then (f x) now → AbsorbsAll old (map f (xs ++ x ∷ [])) now
absorbs_more f old then now xs x one h joined =
    let before = h.0 in
    let same = joined.0 in
    ((same.0 ∙ before.0, same.1 ∙ before.1, same.2 ∙ before.2), settles_more f (view old) (view then) (view now) xs x one joined.1 h.1)

-- a pass that has joined others still has a seat
pub settled_live : (v w : PassView) (us : List PassView) → Settles v us w → v.blank ≡ false → 0 < v.parts → (w.blank ≡ false) × (0 < w.parts)
settled_live v w us h live some = (h.live ∙ live, (let parts = h.parts in omega (arith, parts, some)))

-- mapping twice is mapping once
map_map : {A B C : Type 0} (f : A → B) (g : B → C) (xs : List A) → map g (map f xs) ≡ map (λ x. g (f x)) xs
map_map f g [] = refl
map_map f g (x ∷ xs) = ap (λ l. g (f x) ∷ l) (map_map f g xs)

-- concatenation of two lists of lists
concat-append : (xss yss : List (List Item)) → concat (xss ++ yss) ≡ concat xss ++ concat yss
concat-append [] yss = refl
concat-append (xs ∷ xss) yss = ap (λ l. xs ++ l) (concat-append xss yss) ∙ sym (append_assoc xs (concat xss) (concat yss))

-- the concatenation of empty lists is empty
concat-none : {S : Type 0} (f : S → List Item) (xs : List S) → All (λ s. f s ≡ []) xs → concat (map f xs) ≡ []
concat-none f [] h = refl
concat-none f (x ∷ xs) h = ap (λ (l : List Item). l ++ concat (map f xs)) (All-head (λ s. f s ≡ []) x xs h) ∙ concat-none f xs (All-tail (λ s. f s ≡ []) x xs h)

-- the lists of two kinds of seats, one after the other
concat-both : {S T : Type 0} (f : S → PassView) (g : T → PassView) (h : PassView → List Item) (xs : List S) (ys : List T) → concat (map h (map f xs ++ map g ys)) ≡ concat (map (λ x. h (f x)) xs) ++ concat (map (λ y. h (g y)) ys)
concat-both f g h xs ys =
    ap concat (map-append h (map f xs) (map g ys)) ∙ (concat-append (map h (map f xs)) (map h (map g ys)) ∙ (λ i. concat (map_map f h xs i) ++ concat (map_map g h ys i)))

module _ (v w : PassView) (jobs : List JobView) (takers : List SeatView) (s : Settles v (map (λ s. s.pass) jobs ++ map (λ s. s.pass) takers) w) where
  -- seats that take have put nothing
  pub settled_put : v.puts ≡ [] → All (λ t. t.pass.put ≡ []) takers → all_put w ≡ v.put ++ put_by jobs
  settled_put none idle =
      (λ i. s.own.0 i ++ concat (s.puts i)) ∙ (ap (λ (l : List (List Item)). v.put ++ concat (l ++ map (λ u. u.put) (map (λ s. s.pass) jobs ++ map (λ s. s.pass) takers))) none
      ∙ ap (λ (l : List Item). v.put ++ l) (concat-both (λ s. s.pass) (λ s. s.pass) (λ u. u.put) jobs takers ∙ (ap (λ (l : List Item). put_by jobs ++ l) (concat-none (λ t. t.pass.put) takers idle) ∙ append-nil (put_by jobs))))

  -- seats of jobs have taken nothing
  pub settled_taken : v.takens ≡ [] → v.taken ≡ [] → All (λ t. t.pass.taken ≡ []) jobs → all_taken w ≡ taken_by takers
  settled_taken none own idle =
      (λ i. (s.own.1 ∙ own) i ++ concat (s.takens i)) ∙ (ap (λ (l : List (List Item)). concat (l ++ map (λ u. u.taken) (map (λ s. s.pass) jobs ++ map (λ s. s.pass) takers))) none
      ∙ (concat-both (λ s. s.pass) (λ s. s.pass) (λ u. u.taken) jobs takers ∙ ap (λ (l : List Item). l ++ taken_by takers) (concat-none (λ t. t.pass.taken) jobs idle)))
