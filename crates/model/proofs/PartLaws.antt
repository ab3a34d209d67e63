-- The laws of rising part lists, all together.
use Rattle.std.proofs.Common.{Ordering}
use Rattle.model.specs.Orders.{Lawful}
use Rattle.model.specs.Laws.{PartLaws}
use Rattle.model.proofs.Lists.{put_same, put_other, put_rising, put_grows, put_keeps, cut_same, cut_other, cut_rising, cut_shrinks, cut_keeps, extensional, above_smallest}
use Rattle.model.proofs.Walks.{beyond_end, beyond_next}

module _ {K D : Type 0} (cmp : K → K → Ordering) (laws : Lawful cmp) where
  pub part_laws : PartLaws K D cmp
  part_laws = record {
    put_same = put_same cmp laws;
    put_other = put_other cmp laws;
    put_rising = put_rising cmp laws;
    put_grows = put_grows cmp laws;
    put_keeps = put_keeps cmp laws;
    cut_same = cut_same cmp laws;
    cut_other = cut_other cmp laws;
    cut_rising = cut_rising cmp laws;
    cut_shrinks = cut_shrinks cmp laws;
    cut_keeps = cut_keeps cmp laws;
    extensional = extensional cmp laws;
    above_smallest = above_smallest cmp laws;
    beyond_none = beyond_end cmp;
    beyond_some = beyond_next cmp laws;
  }
