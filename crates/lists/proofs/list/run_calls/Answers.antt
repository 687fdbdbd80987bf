use Rattle.std.proofs.Common.{vec_items, string_bytes, subst}
use Rattle.lists.specs.Printing.{AnswersBy}
use Rattle.lists.proofs.Formed.{form_read}
use Rattle.lists.proofs.list.run_calls.Goals as goal

pub returns : goal.returns
returns g c =
    record {
      calls = vec_items c.in_ok-listing.listing.calls;
      bad = c.in_ok-listing.listing.end;
      answers = string_bytes c.in_ok-out.out;
      read = c.in_ok-listing.ensures;
      form = form_read g.E.Element.numbers g.E.Element.WIDTH g.E.Element.made 2 _ _ _ c.in_ok-listing.ensures;
      run = subst (λ ws. AnswersBy g.E.Element c.args.cells ws (string_bytes c.in_ok-out.out)) c.deref.ensures.value c.in_ok-out.ensures;
      whole = c.in_ok-push_end.ensures;
    }
