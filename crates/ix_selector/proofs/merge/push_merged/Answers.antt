use Rattle.std.proofs.Common.{◌≡◌, ◌++◌, ◌∷◌, [], sym, ◌∙◌, ap, subst}
use Rattle.std.specs.List.{All}
use Rattle.ix_selector.specs.States.{IsJoined, IsOf, EnterMore, ArePlacesRising, IsUpTo}
use Rattle.ix_selector.proofs.Merging.{joined-last, push-enters, joined-rising, pushed-rising}
use Rattle.ix_selector.specs.Merging.{ArePut}
use Rattle.ix_selector.proofs.StatesMerged.{put-joined, put-behind}
use Rattle.ix_selector.proofs.merge.push_merged.Goals as goal

pub returns-in_ok-push-in-Some-joined-clause-enters : goal.returns-in_ok-push-in-Some-joined-clause-enters
returns-in_ok-push-in-Some-joined-clause-enters c =
    let front = c.pop.new.self.items in
    let is : IsJoined c.in-Some.last c.args.state c.in-Some-joined.both = c.in-Some-joined.ensures.some in
    let was : c.args.merged.now.items ≡ front ++ c.in-Some.last ∷ [] = c.in-Some.ensures.items in
    let now : c.push-in-Some-joined.new.self.items ≡ front ++ c.in-Some-joined.both ∷ [] = c.in_ok-push-in-Some-joined.ensures.ok in
    subst (λ l. EnterMore l c.args.merged.now.items c.args.state) (sym now)
    (subst (λ l. EnterMore (front ++ c.in-Some-joined.both ∷ []) l c.args.state) (sym was) (joined-last front c.in-Some.last c.args.state c.in-Some-joined.both is).0)

pub returns-in_ok-push-in-Some-joined-clause-among : goal.returns-in_ok-push-in-Some-joined-clause-among
returns-in_ok-push-in-Some-joined-clause-among c =
    let front = c.pop.new.self.items in
    let is : IsJoined c.in-Some.last c.args.state c.in-Some-joined.both = c.in-Some-joined.ensures.some in
    let was : c.args.merged.now.items ≡ front ++ c.in-Some.last ∷ [] = c.in-Some.ensures.items in
    let now : c.push-in-Some-joined.new.self.items ≡ front ++ c.in-Some-joined.both ∷ [] = c.in_ok-push-in-Some-joined.ensures.ok in
    subst (λ l. All (IsOf (c.args.merged.now.items ++ c.args.state ∷ [])) l) (sym now)
    (subst (λ l. All (IsOf (l ++ c.args.state ∷ [])) (front ++ c.in-Some-joined.both ∷ [])) (sym was) (joined-last front c.in-Some.last c.args.state c.in-Some-joined.both is).1)

pub returns-in_ok-push-in-None-2-clause-enters : goal.returns-in_ok-push-in-None-2-clause-enters
returns-in_ok-push-in-None-2-clause-enters c =
    let was : c.args.merged.now.items ≡ c.pop.new.self.items ++ c.in-Some.last ∷ [] = c.in-Some.ensures.items in
    let now : c.push-in-None-2.new.self.items ≡ c.args.merged.now.items ++ c.args.state ∷ [] = c.in_ok-push-in-None-2.ensures.ok ∙ ap (λ l. l ++ c.args.state ∷ []) (c.in_ok-push-in-None.ensures.ok ∙ sym was) in
    subst (λ l. EnterMore l c.args.merged.now.items c.args.state) (sym now) (push-enters c.args.merged.now.items c.args.state).0

pub returns-in_ok-push-in-Some-joined-clause-rising : goal.returns-in_ok-push-in-Some-joined-clause-rising
returns-in_ok-push-in-Some-joined-clause-rising c =
    let front = c.pop.new.self.items in
    let is : IsJoined c.in-Some.last c.args.state c.in-Some-joined.both = c.in-Some-joined.ensures.some in
    let was : c.args.merged.now.items ≡ front ++ c.in-Some.last ∷ [] = c.in-Some.ensures.items in
    let now : c.push-in-Some-joined.new.self.items ≡ front ++ c.in-Some-joined.both ∷ [] = c.in_ok-push-in-Some-joined.ensures.ok in
    subst ArePlacesRising (sym now) (joined-rising front c.in-Some.last c.args.state c.in-Some-joined.both is (subst ArePlacesRising was c.requires.rising))

pub returns-in_ok-push-in-None-2-clause-rising : goal.returns-in_ok-push-in-None-2-clause-rising
returns-in_ok-push-in-None-2-clause-rising c =
    let front = c.pop.new.self.items in
    let was : c.args.merged.now.items ≡ front ++ c.in-Some.last ∷ [] = c.in-Some.ensures.items in
    let now : c.push-in-None-2.new.self.items ≡ (front ++ c.in-Some.last ∷ []) ++ c.args.state ∷ [] = c.in_ok-push-in-None-2.ensures.ok ∙ ap (λ l. l ++ c.args.state ∷ []) c.in_ok-push-in-None.ensures.ok in
    subst ArePlacesRising (sym now)
    (pushed-rising front c.in-Some.last c.args.state (subst (All (IsUpTo c.args.state)) was c.requires.up_to) c.in-None.ensures.none (subst ArePlacesRising was c.requires.rising))

pub returns-in_ok-push-in-Some-joined-clause-exact : goal.returns-in_ok-push-in-Some-joined-clause-exact
returns-in_ok-push-in-Some-joined-clause-exact c =
    let front = c.pop.new.self.items in
    let is : IsJoined c.in-Some.last c.args.state c.in-Some-joined.both = c.in-Some-joined.ensures.some in
    let was : c.args.merged.now.items ≡ front ++ c.in-Some.last ∷ [] = c.in-Some.ensures.items in
    let now : c.push-in-Some-joined.new.self.items ≡ front ++ c.in-Some-joined.both ∷ [] = c.in_ok-push-in-Some-joined.ensures.ok in
    subst (λ l. ArePut l c.args.merged.now.items c.args.state) (sym now)
    (subst (λ l. ArePut (front ++ c.in-Some-joined.both ∷ []) l c.args.state) (sym was)
    (put-joined front c.in-Some.last c.args.state c.in-Some-joined.both is (subst ArePlacesRising was c.requires.rising)))

pub returns-in_ok-push-in-None-2-clause-exact : goal.returns-in_ok-push-in-None-2-clause-exact
returns-in_ok-push-in-None-2-clause-exact c =
    let front = c.pop.new.self.items in
    let was : c.args.merged.now.items ≡ front ++ c.in-Some.last ∷ [] = c.in-Some.ensures.items in
    let now : c.push-in-None-2.new.self.items ≡ (front ++ c.in-Some.last ∷ []) ++ c.args.state ∷ [] = c.in_ok-push-in-None-2.ensures.ok ∙ ap (λ l. l ++ c.args.state ∷ []) c.in_ok-push-in-None.ensures.ok in
    subst (λ l. ArePut l c.args.merged.now.items c.args.state) (sym now)
    (subst (λ l. ArePut ((front ++ c.in-Some.last ∷ []) ++ c.args.state ∷ []) l c.args.state) (sym was)
    (put-behind front c.in-Some.last c.args.state (subst (All (IsUpTo c.args.state)) was c.requires.up_to) c.in-None.ensures.none (subst ArePlacesRising was c.requires.rising)))
