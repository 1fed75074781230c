-- The kinds of values that words of journals have.

pub data Kind : Type 0 where
  Number : Kind
  Bytes : Kind
  Parts : Kind
  Sizes : Kind
  Truth : Kind
  Provider : Kind
  Mode : Kind
  Limit : Kind
  Service : Kind
  State : Kind
  Event : Kind
  EventOrNone : Kind
  Errno : Kind
