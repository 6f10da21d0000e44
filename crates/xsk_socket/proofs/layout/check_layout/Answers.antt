use Rattle.std.proofs.Common.{rules, ◌≡◌, ◌∙◌, ◌++◌, sym, List, Option, None}
use Rattle.std.specs.Prelude.{IsSome}
use Rattle.std.specs.Result.{result_err}
use Rattle.xsk_socket.specs.declared.layout.Layout.{Layout}
use Rattle.xsk_socket.specs.declared.layout.Unlawful.{Unlawful}
use Rattle.xsk_socket.specs.Layout.{Demand, cells_in, fault_of, first_unmet, on_close, on_counts, on_empty, on_hands, on_rings, on_umem, sockets_in}
use Rattle.xsk_socket.proofs.Accepted.{met_before, unmet_before}
use Rattle.xsk_socket.proofs.layout.check_layout.Goals as goal

-- what is asked up to a step
abbrev to_umem : Layout → List Demand
to_umem l = on_counts l ++ on_umem l

abbrev to_rings : Layout → List Demand
to_rings l = to_umem l ++ on_rings l

abbrev to_empty : Layout → List Demand
to_empty l = to_rings l ++ on_empty l.empty (cells_in l)

abbrev to_close : Layout → List Demand
to_close l = to_empty l ++ on_close l.close (sockets_in l)

behind : (xs ys : List Demand) (r : Option Unlawful) → None ≡ first_unmet xs → r ≡ first_unmet ys → r ≡ first_unmet (xs ++ ys)
behind xs ys r none is = is ∙ sym (met_before xs ys (sym none))

-- a refusal of the first steps is the layout's
of_empty : (l : Layout) (r : Option Unlawful) → IsSome r → r ≡ first_unmet (to_empty l) → r ≡ fault_of l
of_empty l r some is = unmet_before (to_close l) (on_hands l) r some (unmet_before (to_empty l) (on_close l.close (sockets_in l)) r some is)

of_rings : (l : Layout) (r : Option Unlawful) → IsSome r → r ≡ first_unmet (to_rings l) → r ≡ fault_of l
of_rings l r some is = of_empty l r some (unmet_before (to_rings l) (on_empty l.empty (cells_in l)) r some is)

of_umem : (l : Layout) (r : Option Unlawful) → IsSome r → r ≡ first_unmet (to_umem l) → r ≡ fault_of l
of_umem l r some is = of_rings l r some (unmet_before (to_umem l) (on_rings l) r some is)

pub returns-in_err-check_counts : goal.returns-in_err-check_counts
returns-in_err-check_counts c =
    let l = c.args.layout.now in
    let r = result_err c.from_residual.result in
    let some : IsSome r = search rules in
    let is : r ≡ first_unmet (on_counts l) = search rules in
    of_umem l r some (unmet_before (on_counts l) (on_umem l) r some is)

pub returns-in_err-check_umem : goal.returns-in_err-check_umem
returns-in_err-check_umem c =
    let l = c.args.layout.now in
    let r = result_err c.from_residual-in_err-check_umem.result in
    let some : IsSome r = search rules in
    let is : r ≡ first_unmet (on_umem l) = search rules in
    of_umem l r some (behind (on_counts l) (on_umem l) r c.in_ok-check_counts.ensures.refusal is)

pub returns-in_err-check_rings : goal.returns-in_err-check_rings
returns-in_err-check_rings c =
    let l = c.args.layout.now in
    let r = result_err c.from_residual-in_err-check_rings.result in
    let some : IsSome r = search rules in
    let is : r ≡ first_unmet (on_rings l) = search rules in
    let umem = behind (on_counts l) (on_umem l) None c.in_ok-check_counts.ensures.refusal c.in_ok-check_umem.ensures in
    of_rings l r some (behind (to_umem l) (on_rings l) r umem is)

pub returns-in_err-check_empty : goal.returns-in_err-check_empty
returns-in_err-check_empty c =
    let l = c.args.layout.now in
    let r = result_err c.from_residual-in_err-check_empty.result in
    let some : IsSome r = search rules in
    let is : r ≡ first_unmet (on_empty l.empty (cells_in l)) = search rules in
    let umem = behind (on_counts l) (on_umem l) None c.in_ok-check_counts.ensures.refusal c.in_ok-check_umem.ensures in
    let rings = behind (to_umem l) (on_rings l) None umem c.in_ok-check_rings.ensures in
    of_empty l r some (behind (to_rings l) (on_empty l.empty (cells_in l)) r rings is)

pub returns-in_err-check_close : goal.returns-in_err-check_close
returns-in_err-check_close c =
    let l = c.args.layout.now in
    let r = result_err c.from_residual-in_err-check_close.result in
    let some : IsSome r = search rules in
    let is : r ≡ first_unmet (on_close l.close (sockets_in l)) = search rules in
    let umem = behind (on_counts l) (on_umem l) None c.in_ok-check_counts.ensures.refusal c.in_ok-check_umem.ensures in
    let rings = behind (to_umem l) (on_rings l) None umem c.in_ok-check_rings.ensures in
    let empty = behind (to_rings l) (on_empty l.empty (cells_in l)) None rings c.in_ok-check_empty.ensures in
    unmet_before (to_close l) (on_hands l) r some (behind (to_empty l) (on_close l.close (sockets_in l)) r empty is)

pub returns : goal.returns
returns c =
    let l = c.args.layout.now in
    let r = result_err c.unless.result in
    let is : r ≡ first_unmet (on_hands l) = search rules in
    let umem = behind (on_counts l) (on_umem l) None c.in_ok-check_counts.ensures.refusal c.in_ok-check_umem.ensures in
    let rings = behind (to_umem l) (on_rings l) None umem c.in_ok-check_rings.ensures in
    let empty = behind (to_rings l) (on_empty l.empty (cells_in l)) None rings c.in_ok-check_empty.ensures in
    let close = behind (to_empty l) (on_close l.close (sockets_in l)) None empty c.in_ok-check_close.ensures in
    behind (to_close l) (on_hands l) r close is
