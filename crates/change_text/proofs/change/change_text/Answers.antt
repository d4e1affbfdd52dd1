use Rattle.std.proofs.Common.{refl}
use Rattle.change_text.specs.ChangeText.{change_text_of}
use Rattle.change_text.proofs.change.change_text.Goals as goal

pub returns : goal.returns
unfolding change_text_of
returns c =
    rw (
      ← c.earlier.view_is,
      ← c.later.view_is,
      c.into_bytes.ensures.value,
      c.in_ok-end_with_number-2.ensures,
      c.in_ok-push_changed_values-2.ensures,
      c.in_ok-push_changed_groups.ensures,
      c.in_ok-push_changed_values.ensures,
      c.in_ok-push_changed_closings.ensures,
      c.in_ok-end_with_number.ensures,
      c.new-text.ensures.bytes,
      c.total_in.ensures,
      c.deref.ensures.value,
      c.deref-2.ensures.value,
      c.deref-3.ensures.value,
      c.deref-4.ensures.value,
      c.deref-5.ensures.value,
      c.deref-6.ensures.value,
      c.deref-7.ensures.value,
      c.deref-8.ensures.value,
      c.deref-9.ensures.value,
    ) refl
