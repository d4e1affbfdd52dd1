pub mod SlopeValues
