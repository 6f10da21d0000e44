-- `take_parts` moves what a live handle owns to the parts.
use Rattle.std.proofs.Common.{◌≡◌, ℕ, Bool, true, false, not, T, List, [], ◌∷◌, ◌++◌, refl, sym, ap, ◌∙◌, subst, lit<}
use mir.Syntax.{named}
use mir.Val.{Val, vptr, vcons, vnil}
use mir.Raw.{raw as bare}
use base.Fraction.{full_share}
use base.Logic.{SProp, ent, id⊢, never, fst∗}
use base.Fml.{ftrue, flft}
use prog.Wp.{WpFn}
use types.Logic.{sem}
use types.Kit.{at_ret, ‵, raw, ◌⊛◌, ◌$◌, ◌∵◌, !, qed, by, move, keep, drop, split, join, fsplit, fsplit3, fjoin, fjoin3, rewrite, suffices, feq_i, frame, group, use0, use1, done}
use types.Run.{stop, fld, of_opd, un, lit, load, false_lit, no_more, and_then, assigns, first, branches, skips, exec, returns, returns_within, enter}
use types.ByLocal.{alloc_all, pass_all, free_all, look_at, get, through, sets, env}
use types.Part.{agg, sub, whole, look_in, store_in}
use types.Match.{live as in_variant}
use contract.Running.{tables}
use denote.Exit.{yes}
use denote.Laws.{shows}
use denote.Memory.{cell_at}
use denote.RattleType.{RattleType, owns}
use denote.Signature.{type_at, plain}
use denote.RawPtr.{Ptr, block_ptr, null_ptr, in_a_block}
use denote.Ref.{MutRef}
use denote.Steps.{nothing, opens, closes, peeks}
use denote.Triple.Walked.{Stays, walk_of, says, stay_ref, stay_dropped, Goes-ref, Goes-dropped, ends_at}
use Rattle.std.proofs.alloc.Calls.{token, handle_tells}
use Rattle.std.proofs.option.Made.{Some-of, none_of}
use Rattle.std.specs.declared.option.Option.TheVariants.{None, Some}
use Rattle.std.proofs.raw_atomic.Walks.{proved_at}
use Rattle.std.specs.contracts.alloc.Global as heap
use Rattle.std_alloc.specs.Box.Ownership.{box_owns}
use Rattle.std_alloc.proofs.ResultValues.{and_tt}
use Rattle.std_alloc.proofs.BoxSteps.Form as box
use Rattle.std_alloc.proofs.BoxSteps.Steps.{box_in}
use Rattle.xsk_c.specs.Held.{held}
use Rattle.xsk_c.proofs.Data.{E, P, R, word, fields_in}
use Rattle.xsk_c.proofs.handle.Handle.TheLaws.{lowers}
use Rattle.xsk_c.specs.contracts.handle.Handle.take_parts as f
use Rattle.xsk_c.proofs.handle.Handle.take_parts.Statement.{statement}
use Rattle.xsk_c.proofs.handle.Handle.take_parts.Code as code

abbrev stayed : Stays f.ended.signature.params f.ended.kept
stayed = (stay_ref (0 ∷ []) tt (plain (λ _. R)), (stay_dropped (plain (λ _. heap.the_row)) yes, tt))

is_live : (y : Bool) → T (not (not y)) → y ≡ true
is_live true t = refl
is_live false t = absurd t

is_not : (y : Bool) → T (not y) → y ≡ false
is_not true t = absurd t
is_not false t = refl

pub take_parts_spec : {M : Type 1} → statement M
take_parts_spec 𝓤 𝓛 𝓜 𝓡 wired =
    let c = f.clauses 𝓛 𝓜.mem 𝓡.returns in let W = walk_of 𝓛 f.ended stayed c in let 𝓣 = tables 𝓤 𝓛.H 𝓜 𝓡 𝓡.env in
    proved_at 𝓛 f.ended stayed c 𝓜 𝓡 (Goes-ref 𝓛 1 0 tt (plain (λ _. R)), (Goes-dropped 𝓛 1 (plain (λ _. heap.the_row)) yes (λ κs x w. refl), tt))
    f.Key.name code.function (code.unfolded 𝓤 𝓛.H 𝓜 𝓡 wired) (λ z are.
    let κ = z.0.0.0 in let q = z.0.1.0 in let self = z.0.3.0 in let a = z.0.3.1.0 in let b = self.ref_ptr.0 in let o = self.ref_ptr.1 in let h = self.now in let Out : RattleType = type_at f.ended.signature.result z.0.0 in
    let Post : Val → SProp 𝓤 = W.post z in let Run : List Val → List Val → SProp 𝓤 = λ us vs. WpFn 𝓤 𝓛.H 𝓣.C 𝓣.Λ code.function (us ++ (vs ++ [])) Post in
    qed 𝓛 (((‵ (flft κ q) ⊛ ‵ ftrue) ⊛ ‵ (owns (MutRef (named 0) κ R ∷ heap.the_row ∷ []) z.0.3 z.0.4)) ∷ ‵ ftrue ∷ []) ∵
    split ! $ split ! $ move ! (2 ∷ []) $ fsplit ! $ move ! (1 ∷ []) $ fsplit ! $
    -- [the heap's handle; nothing; the reference; the token; nothing; nothing]
    handle_tells E.al ! a z.0.4.1.0 (λ hv ws fa.
    suffices ! (Run (vptr b o ∷ []) (hv ∷ [])) (subst (λ (us : List Val). ent 𝓤 (Run (vptr b o ∷ []) (hv ∷ [])) (Run us z.0.4.1.0)) (sym are.0.0)
    (subst (λ (vs : List Val). ent 𝓤 (Run (vptr b o ∷ []) (hv ∷ [])) (Run (vptr b o ∷ []) vs)) (sym ws) (id⊢ 𝓤 (Run (vptr b o ∷ []) (hv ∷ []))))) $
    enter ! 𝓣.C 𝓣.Λ code.function (vptr b o ∷ hv ∷ []) Post $ alloc_all ! (λ l. pass_all ! refl ((tt, tt), (fa, tt)) $
    move ! (2 ∷ []) $ fsplit3 ! $ drop ! $ move ! (0 ∷ 1 ∷ 4 ∷ []) $ opens ! tt R b o (λ us.
    move ! (1 ∷ []) $ peeks ! R _ (shows 𝓛 R) h us (λ is. rewrite ! 1 (λ (ws' : List Val). ‵ (cell_at full_share R.mir ws' b o)) (lowers.val_is h us is) refl $ fsplit ! $ drop ! $
    -- [what the handle owns; its cell; the open borrow, in three entries; the heap's handle]
    sets ! (of_opd ! (load ! (through ! refl (fld ! refl (stop !))) (look_in ! 1 (sub ! 1 refl (whole !))))) refl (tt, tt) $
    sets ! (un ! (get ! refl) tt) refl (tt, tt) $
    first ! $ branches ! (get ! refl)
    (λ shut. sets ! (agg ! (and_then ! (lit ! tt) (no_more !))) refl (tt, (record { fits = lit< tt }, tt)) $
    fields_in ! h.at h.live $ fjoin ! $ move ! (1 ∷ 0 ∷ []) $ closes ! tt R h (word h.at h.live ∷ []) b o $
    returns_within ! Post refl (look_at ! 0 refl) $ free_all ! refl $ keep ! (0 ∷ 1 ∷ 2 ∷ []) $
    suffices ! _ (ends_at 𝓛 f.ended stayed c z (in_variant 0 vnil) None (h, (tt, tt)) (tt, (tt, tt))) $ says ! (refl, is_not h.live shut) $
    nothing ! $ move ! (3 ∷ 0 ∷ []) $ join ! $ frame ! $ feq_i ! (List Val) z.0.4.0 (vptr b o ∷ []) are.0.0 $ fjoin3 ! $ nothing ! $ nothing ! $ fjoin ! $ move ! (1 ∷ 0 ∷ []) $ fjoin ! $
    use0 𝓛 (‵ (Out.own_val None (in_variant 0 vnil ∷ []))) (none_of 𝓛 P) $ move ! (1 ∷ 0 ∷ []) $ done !)
    (λ so. skips ! $ exec ! 𝓣.C 𝓣.Λ (env code.Mir.locals l) code.Mir.t-4 (at_ret _ Post) $
    rewrite ! 0 (λ (y : Bool). ‵ (held h.at y h.state)) (is_live h.live so) refl $
    in_a_block ! h.at (λ p. box_owns (token E.al a) (box.R E) p h.state) (fst∗ 𝓤 (never 𝓤) (sem 𝓛 (token E.al a (bare (box.τ E)) null_ptr))) (λ pb po e.
    rewrite ! 1 (λ (p : Ptr). ‵ (cell_at full_share R.mir (word p h.live ∷ []) b o)) e refl $
    let w : Val = box.word E hv pb po in let typed = box.box_typed E hv pb po fa in let v : Val = in_variant 1 (vcons w vnil) in
    let d : P.Denot = record { ptr = block_ptr pb po; alloc = a; value = h.state } in let h' : R.Denot = record { at = block_ptr pb po; live = false; state = h.state } in
    assigns ! (of_opd ! (false_lit !)) (through ! refl (fld ! refl (stop !))) (store_in ! 1 (sub ! 1 refl (whole !)) (tt, tt)) $
    sets ! (of_opd ! (load ! (through ! refl (fld ! refl (stop !))) (look_in ! 1 (sub ! 0 refl (whole !))))) refl (tt, tt) $ sets ! (of_opd ! (get ! refl)) refl (tt, tt) $
    sets ! (agg ! (and_then ! (get ! refl) (and_then ! (get ! refl) (no_more !)))) refl typed $
    sets ! (agg ! (and_then ! (lit ! tt) (and_then ! (get ! refl) (no_more !)))) refl (and_tt _ typed.0, (record { fits = lit< tt }, (typed.1, tt))) $
    -- [what the box owns; the cell; the open borrow, in three entries; the heap's handle]
    move ! (1 ∷ []) $ nothing ! $ fields_in ! (block_ptr pb po) false $ fjoin ! $ move ! (1 ∷ 0 ∷ 3 ∷ 4 ∷ 5 ∷ []) $ closes ! tt R h' (word (block_ptr pb po) false ∷ []) b o $
    -- [obs; the borrow; the token; what the box owns; the heap's handle]
    move ! (3 ∷ []) $ fsplit ! $ move ! (0 ∷ 1 ∷ 5 ∷ []) $ box_in E ! (record { ptr = block_ptr pb po; alloc = a; value = h.state }) pb po h.state refl refl $
    use1 𝓛 (‵ (P.own_val d (w ∷ []))) (id⊢ 𝓤 _) $ use1 𝓛 (‵ (Out.own_val (Some d) (v ∷ []))) (Some-of 𝓛 P d w) $
    returns ! (look_at ! 0 refl) $ free_all ! refl $ keep ! (1 ∷ 2 ∷ 3 ∷ 0 ∷ []) $
    suffices ! _ (ends_at 𝓛 f.ended stayed c z v (Some d) (h', (tt, tt)) (tt, (tt, tt))) $ says ! (refl, is_live h.live so, refl) $
    nothing ! $ move ! (3 ∷ 0 ∷ []) $ join ! $ frame ! $ feq_i ! (List Val) z.0.4.0 (vptr b o ∷ []) are.0.0 $ fjoin3 ! $ nothing ! $ nothing ! $ fjoin ! $ move ! (1 ∷ 0 ∷ []) $ fjoin ! $
    done !)))))))
