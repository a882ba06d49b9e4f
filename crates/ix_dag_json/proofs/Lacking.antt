-- What DAG-JSON can't express, from a part to the whole.
use Rattle.std.proofs.Common.{ℕ, List, ◌∷◌, refl, sym, ap, ◌∙◌, subst}
use Rattle.std.specs.Prelude.{Result, Ok, Err, IfOk}
use Rattle.std.specs.declared.alloc.AllocError.{AllocError}
use Rattle.ix_cbor.specs.Data.{Data, Items, Entries, list, map}
use Rattle.ix_dag_json.specs.declared.fault.DagJsonFault.{DagJsonFault}
use Rattle.ix_dag_json.specs.declared.fault.DagJsonFault.TheVariants as faults
use Rattle.ix_dag_json.specs.declared.fault.Step.{Step}
use Rattle.ix_dag_json.specs.declared.fault.Step.TheVariants as steps
use Rattle.ix_dag_json.specs.declared.fault.Wrong.{Wrong}
use Rattle.ix_dag_json.specs.Lack.{IsItem, IsEntry, Leads, IsWrong, IsPartOf, IsLack, IsWrongHere, IsStepTo, IsUnder}

-- the error that a node is wrong is its error
pub wrong_here : (d : Data) (w : Wrong) (fault : DagJsonFault) → IsWrongHere w fault → IsWrong w d → IsLack d fault
wrong_here d w fault h wrong =
    let lacks : IsPartOf d h.lacking = record {
      part = d;
      leads = subst (λ p. Leads p d d) (sym h.here) refl;
      wrong = subst (λ v. IsWrong v d) (sym h.reason) wrong;
    } in
    subst (IsLack d) (sym h.same) lacks

-- the error of an element, after its step, is that of the list
pub item_lacks : (ds : Items) (i : ℕ) (d : Data) (fault result : DagJsonFault) → IsItem ds i d → IsLack d fault → IsUnder {E = AllocError} fault (Ok (steps.Index i)) result
    → IsLack (list ds) result
item_lacks ds i d fault (faults.Block b) is lack under = subst (IsLack d) under lack
item_lacks ds i d fault (faults.Part lacking) is lack under =
    let inner : IsPartOf d under.inner = subst (IsLack d) under.was lack in
    record {
      part = inner.part;
      leads = subst (λ p. Leads p (list ds) inner.part) (sym under.path) (ds, d, refl, is, inner.leads);
      wrong = subst (λ w. IsWrong w inner.part) (sym under.reason) inner.wrong;
    }
item_lacks ds i d fault faults.Memory is lack under = tt

-- that of a value, after the step to its key, is that of the map
pub value_lacks : (es : Entries) (k : List ℕ) (d : Data) (fault result : DagJsonFault) {E : Type 0} (step : Result Step E) → IsEntry es k d
    → IfOk step (IsStepTo k) → IsLack d fault → IsUnder fault step result → IsLack (map es) result
value_lacks es k d fault (faults.Block b) step is to lack under = subst (IsLack d) under lack
value_lacks es k d fault (faults.Part lacking) (Ok first) is to lack under =
    let inner : IsPartOf d under.inner = subst (IsLack d) under.was lack in
    let whole = map es in
    let found : IsEntry es to.0.items d = subst (λ key. IsEntry es key d) (sym to.2) is in
    let stepped : Leads (steps.Key to.0 ∷ under.inner.path.items) whole inner.part = (es, d, refl, found, inner.leads) in
    record {
      part = inner.part;
      leads = subst (λ p. Leads p whole inner.part) (sym (under.path ∙ ap (λ s. s ∷ under.inner.path.items) to.1)) stepped;
      wrong = subst (λ w. IsWrong w inner.part) (sym under.reason) inner.wrong;
    }
value_lacks es k d fault (faults.Part lacking) (Err e) is to lack under = absurd under
value_lacks es k d fault faults.Memory step is to lack under = tt
