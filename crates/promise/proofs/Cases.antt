-- The worked cases, each computed.
use Rattle.std.proofs.Common.{refl}
use Rattle.kinds.specs.Kinds.{combine, conflict, covers}
use Rattle.promise.specs.Worked.{WorkedCases}

pub worked : WorkedCases
unfolding combine conflict covers
worked =
    record {
      weak_bars = refl;
      finish_lets_go = refl;
      wait_flag_keeps = refl;
      commutative_one_at_a_time = refl;
      commutative_goes_on = refl;
      commutative_childless = refl;
      combined = refl;
      combined_reads = refl;
      out_reads_not = refl;
      in_covers_not_out = refl;
      hands_over = (
        refl,
        refl,
        (refl, refl, (refl, refl, (refl, refl, (refl, refl, (refl, refl, (refl, refl, (refl, refl, (refl, refl, (refl, refl, refl))))))))),
      );
      handed_in_order = refl;
      nested_first = refl;
    }
